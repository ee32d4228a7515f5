-- Affected vertices of a row ("suspects"): document 01, "Batch"; document 02, One, Three and Five. Assumes nothing.
--
-- es is the list of edges before the batch, fs the list after it, s the landmark of the row, ws its words.
--
--   Held P s ws e             == e is tight, and its head is not the landmark and has a route
--   Affected P es fs s ws t   == t is affected: the head of a removed held edge, and so on along held edges that are not removed
--   held P s ws e             == the same as Held, as a test
--   marked ms t               == t is marked
--   touches .. ms e           == e marks its head: held, and removed or its tail is marked
--   sweep .. xs ms            == one pass over the edges xs, from last to first, each marking its head where it does
--   hunt .. xs k ms           == pass by pass until one adds none, k passes at most
--   affected P es fs s ws n   == the affected ones of n vertices, as marks: n passes over the old edges find all
--   Closed P es fs s ws xs ms == each edge of xs that would mark its head finds it marked
--   AffectedExact             == the marks are the closure, for any words: proved as affected_exact
--   Named P es fs s ws ms     == each mark of ms is of an affected vertex
--   mark .. ms e              == the marks after one edge: its head is marked where it touches
--   Fewer P es fs             == the affected vertices are among those of document 01 alone, the least set of its kind: any set that holds the head of each
--                              held edge whose three words are gone, and of each held edge from one of its members, holds all affected vertices
--   FewerAffected           == so for the rows of both sides, where the new table keeps the rules: proved as fewer_affected
use Rattle.std.specs.Prelude.{◌≡◌, ◌≢◌, ◌↔◌, Bool, true, false, not, ◌&&◌, ◌||◌, cond, ℕ, zero, suc, ◌<◌, get_or, set, replicate, eqb}
use mathlib.Core.List.{List, foldr, map, Memᴰ}
use Rattle.property.specs.Property.{Property}
use Rattle.property.specs.Laws.{Laws}
use Rattle.frontier.specs.Waiting.{count_of}
use Rattle.graph.specs.Refusal.{accept}
use Rattle.graph.specs.Edge.{Edge, reverse, among}
use Rattle.graph.specs.Table.{rules}
use Rattle.run.specs.Run.{word, tight}
use Rattle.affected.specs.Net.{removed}

-- ---- the closure, as document 01 names it

pub record Held (P : Property) (s : ℕ) (ws : List ℕ) (e : Edge) : Type 0 where
  pub tight : tight P ws e ≡ true
  pub elsewhere : e.head ≢ s
  pub routed : word P ws e.head ≢ P.none

pub data Affected (P : Property) (es fs : List Edge) (s : ℕ) (ws : List ℕ) : ℕ → Type 0 where
  at_removed : {e : Edge} → Memᴰ e es → removed P es fs e ≡ true → Held P s ws e → Affected P es fs s ws e.head
  onward : {e : Edge} → Affected P es fs s ws e.tail → Memᴰ e es → removed P es fs e ≡ false → Held P s ws e
      → Affected P es fs s ws e.head

-- ---- as marks that compute

abbrev pub held : Property → ℕ → List ℕ → Edge → Bool
held P s ws e = tight P ws e && (not (eqb e.head s) && not (eqb (word P ws e.head) P.none))

abbrev pub marked : List Bool → ℕ → Bool
marked ms t = get_or ms t false

module _ (P : Property) (es fs : List Edge) (s : ℕ) (ws : List ℕ) where
  abbrev pub touches : List Bool → Edge → Bool
  touches ms e = held P s ws e && (removed P es fs e || marked ms e.tail)

  unfoldable pub mark : List Bool → Edge → List Bool
  mark ms e = cond (touches ms e) (set ms e.head true) ms

  unfoldable pub sweep : List Edge → List Bool → List Bool
  sweep xs ms = foldr (λ e rest. mark rest e) ms xs

  unfoldable pub hunt : List Edge → ℕ → List Bool → List Bool
  hunt xs zero ms = ms
  hunt xs (suc k) ms = cond (eqb (count_of (sweep xs ms)) (count_of ms)) ms (hunt xs k (sweep xs ms))

unfoldable pub affected : Property → List Edge → List Edge → ℕ → List ℕ → ℕ → List Bool
affected P es fs s ws n = hunt P es fs s ws es n (replicate n false)

-- ---- that they are the closure

abbrev pub AffectedExact : Type 0
AffectedExact = (P : Property) (es fs : List Edge) (s : ℕ) (ws : List ℕ) (n : ℕ) → ((e : Edge) → Memᴰ e es → e.head < n)
    → (t : ℕ) → (marked (affected P es fs s ws n) t ≡ true) ↔ Affected P es fs s ws t

abbrev pub Closed : Property → List Edge → List Edge → ℕ → List ℕ → List Edge → List Bool → Type 0
Closed P es fs s ws xs ms = (e : Edge) → Memᴰ e xs → touches P es fs s ws ms e ≡ true → marked ms e.head ≡ true

abbrev pub Named : Property → List Edge → List Edge → ℕ → List ℕ → List Bool → Type 0
Named P es fs s ws ms = (t : ℕ) → marked ms t ≡ true → Affected P es fs s ws t

-- ---- that they are no more than document 01 alone had

abbrev pub Fewer : Property → List Edge → List Edge → Type 0
Fewer P es fs = (s : ℕ) (ws : List ℕ) (out : ℕ → Bool)
    → ((e : Edge) → Memᴰ e es → Held P s ws e → (not (among fs e) || out e.tail) ≡ true → out e.head ≡ true)
    → (t : ℕ) → Affected P es fs s ws t → out t ≡ true

abbrev pub FewerAffected : Type 0
FewerAffected = (P : Property) → Laws P → (n : ℕ) (es fs : List Edge) → rules n fs ≡ accept → Fewer P es fs × Fewer P (map reverse es) (map reverse fs)
