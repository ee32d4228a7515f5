-- Routes in the order of the search, as numbers: a route is a 1 and then the head of each edge, as digits of base 256. Of two routes the one with
-- fewer edges is the lower number, and of two with as many edges the one with the lower vertex at the first place where they differ. So all that the
-- order of routes needs is arithmetic. Assumes nothing.
--
--   rank a ps == the number a with the head of each edge of ps put after it as a digit; a route's number is its rank after 1
--   Narrow ps == the heads of ps are digits
use Rattle.property.proofs.Basics.{◌≡◌, refl, sym, ◌∙◌, ⊎_elim, true, true≢false, List, [], ◌∷◌, ◌++◌, map, foldl, Memᴰ, Memᴰ-head, Memᴰ-tail, Memᴰ-cases_cons, Memᴰ-not_nil, ℕ, zero, suc, ◌+◌, ◌*◌, ◌≤◌, ◌<◌, arith, length, get_or, ltb, eqb, ltb-true, ltb-false, le-ltb, eq-eqb, eqb-true}
use mathlib.Core.List.{foldl-append}
use Rattle.property.proofs.Tests.{by_test, is_false}
use Rattle.graph.specs.Limits.{max_vertices}
use Rattle.graph.specs.Edge.{Edge}
use Rattle.graph.specs.Leads.{Leads, stop, on, visited, lower}
use Rattle.graph.proofs.Tests.{both}
use Rattle.theory.proofs.Leads.{NoLater}

abbrev pub rank : ℕ → List Edge → ℕ
rank a ps = foldl (λ k e. k * max_vertices + e.head) a ps

abbrev pub Narrow : List Edge → Type 0
Narrow ps = (e : Edge) → Memᴰ e ps → e.head < max_vertices

-- ---- the order of numbers is the order of routes

pub rank_on : (a : ℕ) (ps : List Edge) (e : Edge) → rank a (ps ++ e ∷ []) ≡ rank a ps * max_vertices + e.head
rank_on a ps e = foldl-append (λ (k : ℕ) (f : Edge). k * max_vertices + f.head) a ps (e ∷ [])

pub rank_most : (a : ℕ) (ps : List Edge) → a ≤ rank a ps
rank_most a [] = omega arith
rank_most a (e ∷ ps) = let h = rank_most (a * max_vertices + e.head) ps in omega arith

rank_less : (a b : ℕ) (ps qs : List Edge) → a < b → length ps ≡ length qs → Narrow ps → rank a ps < rank b qs
rank_less a b [] [] h l d = h
rank_less a b [] (f ∷ qs) h l d = absurd (omega arith)
rank_less a b (e ∷ ps) [] h l d = absurd (omega arith)
rank_less a b (e ∷ ps) (f ∷ qs) h l d =
    let z = d e (Memᴰ-head refl) in
    rank_less (a * max_vertices + e.head) (b * max_vertices + f.head) ps qs (omega arith) (omega arith) (λ x m. d x (Memᴰ-tail m))

rank_fewer : (a b : ℕ) (ps qs : List Edge) → a < b * max_vertices → length ps < length qs → Narrow ps → rank a ps < rank b qs
rank_fewer a b ps [] h l d = absurd (omega arith)
rank_fewer a b [] (f ∷ qs) h l d = let z = rank_most (b * max_vertices + f.head) qs in omega arith
rank_fewer a b (e ∷ ps) (f ∷ qs) h l d =
    let z = d e (Memᴰ-head refl) in
    rank_fewer (a * max_vertices + e.head) (b * max_vertices + f.head) ps qs (omega arith) (omega arith) (λ x m. d x (Memᴰ-tail m))

rank_lower : (a : ℕ) (ps qs : List Edge) → length ps ≡ length qs → Narrow ps → lower (map (λ e. e.head) ps) (map (λ e. e.head) qs) ≡ true → rank a ps < rank a qs
unfolding lower
rank_lower a [] qs l d h = absurd (true≢false (sym h))
rank_lower a (e ∷ ps) [] l d h = absurd (omega arith)
rank_lower a (e ∷ ps) (f ∷ qs) l d h = by_test (ltb e.head f.head)
    (λ q. let z = ltb-true e.head f.head q in rank_less (a * max_vertices + e.head) (a * max_vertices + f.head) ps qs (omega arith) (omega arith) narrow)
    (λ q. let z = both (eqb e.head f.head) (lower (map (λ x. x.head) ps) (map (λ x. x.head) qs)) (rw q at h) in
    rw (eqb-true e.head f.head z.0) (rank_lower (a * max_vertices + f.head) ps qs (omega arith) narrow z.1))
  where
    narrow : Narrow ps
    narrow x m = d x (Memᴰ-tail m)

lower_behind : (s : ℕ) (us vs : List ℕ) → lower (s ∷ us) (s ∷ vs) ≡ lower us vs
unfolding lower
lower_behind s us vs = rw (le-ltb s s (omega arith), eq-eqb s s refl)

pub rank_no_later : (s : ℕ) (ps qs : List Edge) → Narrow qs → rank 1 ps ≤ rank 1 qs → NoLater s ps qs
rank_no_later s ps qs d h = (
  by_test (ltb (length qs) (length ps)) (λ q. let z = rank_fewer 1 1 qs ps (omega arith) (ltb-true _ _ q) d in absurd (omega arith)) (λ q. ltb-false _ _ q),
  λ l. is_false (lower (visited s qs) (visited s ps)) (λ q. let z = rank_lower 1 qs ps l d (sym (lower_behind s _ _) ∙ q) in omega arith),
)

-- ---- the edges of a route

-- the last digit of a route's number is its last vertex
rank_digit : {es ps : List Edge} {u t : ℕ} (a k h : ℕ) → Leads es u ps t → Narrow ps → u < max_vertices → h < max_vertices → rank (a * max_vertices + u) ps ≡ k * max_vertices + h → t ≡ h
rank_digit a k h stop d l m z = omega arith
rank_digit {u = u} a k h (on {e = e} i r) d l m z = rank_digit (a * max_vertices + u) k h r (λ x j. d x (Memᴰ-tail j)) (d e (Memᴰ-head refl)) m z

pub rank_last : {es ps : List Edge} {s t : ℕ} (k h : ℕ) → Leads es s ps t → Narrow ps → 0 < k → h < max_vertices → rank 1 ps ≡ k * max_vertices + h → t ≡ h
rank_last k h stop d l m z = absurd (omega arith)
rank_last k h (on {e = e} i r) d l m z = rank_digit 1 k h r (λ x j. d x (Memᴰ-tail j)) (d e (Memᴰ-head refl)) m z

pub leads_mem : {es ps : List Edge} {s t : ℕ} {e : Edge} → Leads es s ps t → Memᴰ e ps → Memᴰ e es
leads_mem stop m = absurd (Memᴰ-not_nil m)
leads_mem (on i l) m = ⊎_elim (λ p. rw p i) (λ k. leads_mem l k) (Memᴰ-cases_cons m)

pub leads_last : {es ps : List Edge} {s t : ℕ} → Leads es s ps t → get_or (visited s ps) (length ps) 0 ≡ t
leads_last stop = refl
leads_last (on i l) = leads_last l

-- each edge leaves the vertex that stands at its index
pub leads_tail : {es ps : List Edge} {s t : ℕ} → Leads es s ps t → (d : Edge) (i : ℕ) → i < length ps → get_or (visited s ps) i 0 ≡ (get_or ps i d).tail
leads_tail stop d i h = absurd (omega arith)
leads_tail (on m l) d zero h = refl
leads_tail (on m l) d (suc i) h = leads_tail l d i (omega arith)
