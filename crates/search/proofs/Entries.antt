-- What a search is told by: the entries of its queue, each with the route by which its vertex was found. Assumes nothing.
--
--   Entry          == a vertex of the queue with the route by which it was found
--   entry gs j     == entry j of gs
--   key g          == the number of g's route
--   Before g h     == g's route comes before h's, and leads to another vertex
--   Known gs v     == an entry of gs is of vertex v
--   Reached gs k v == an entry of gs is of vertex v, and its route's number is at most k
--   Grows gs gs'   == gs' is gs with entries put after it
use Rattle.property.proofs.Basics.{◌≡◌, refl, ap, ◌∙◌, ◌≢◌, List, [], ◌∷◌, ◌++◌, ℕ, zero, suc, ◌≤◌, ◌<◌, arith, length, get_or, length-append, get_or-append}
use Rattle.graph.specs.Edge.{Edge}
use Rattle.search.proofs.Routes.{rank}

-- ---- entries

pub record Entry : Type 0 where
  pub vertex : ℕ
  pub route : List Edge

abbrev pub entry : List Entry → ℕ → Entry
entry gs j = get_or gs j (record { vertex = 0; route = [] })

abbrev pub key : Entry → ℕ
key g = rank 1 g.route

abbrev pub Before : Entry → Entry → Type 0
Before g h = (key g < key h) × (g.vertex ≢ h.vertex)

abbrev pub Known : List Entry → ℕ → Type 0
Known gs v = (j : ℕ) × (j < length gs) × ((entry gs j).vertex ≡ v)

abbrev pub Reached : List Entry → ℕ → ℕ → Type 0
Reached gs k v = (j : ℕ) × (j < length gs) × ((entry gs j).vertex ≡ v) × (key (entry gs j) ≤ k)

-- what holds of each entry and of one more
pub each_on : (P : ℕ → Entry → Type 0) (gs : List Entry) (g : Entry) → ((j : ℕ) → j < length gs → P j (entry gs j)) → P (length gs) g
    → (j : ℕ) → j < length (gs ++ g ∷ []) → P j (entry (gs ++ g ∷ []) j)
each_on P [] g a b zero h = b
each_on P [] g a b (suc j) h = absurd (omega arith)
each_on P (x ∷ gs) g a b zero h = a 0 (omega arith)
each_on P (x ∷ gs) g a b (suc j) h = each_on (λ k. P (suc k)) gs g (λ k l. a (suc k) (omega arith)) b j (omega arith)

pub record Grows (gs gs' : List Entry) : Type 0 where
  pub longer : length gs ≤ length gs'
  pub same : (j : ℕ) → j < length gs → entry gs' j ≡ entry gs j

pub grows_none : (gs : List Entry) → Grows gs gs
grows_none gs = record { longer = omega arith; same = λ j h. refl }

pub grows_then : {gs gs' gs'' : List Entry} → Grows gs gs' → Grows gs' gs'' → Grows gs gs''
grows_then a b = let p = a.longer in let q = b.longer in record { longer = omega arith; same = λ j h. b.same j (omega arith) ∙ a.same j h }

pub grows_one : (gs : List Entry) (g : Entry) → Grows gs (gs ++ g ∷ [])
grows_one gs g = let p = length-append gs (g ∷ []) in record { longer = omega arith; same = λ j h. get_or-append gs (g ∷ []) _ j h }

pub known_grows : {gs gs' : List Entry} {v : ℕ} → Grows gs gs' → Known gs v → Known gs' v
known_grows a (j, h, p) = let l = a.longer in (j, omega arith, ap (λ (g : Entry). g.vertex) (a.same j h) ∙ p)

pub reached_grows : {gs gs' : List Entry} {k v : ℕ} → Grows gs gs' → Reached gs k v → Reached gs' k v
reached_grows a (j, h, p, q) = let l = a.longer in (j, omega arith, ap (λ (g : Entry). g.vertex) (a.same j h) ∙ p, (rw (a.same j h) q))
