-- What the functions of the hunt for a row's affected vertices are told and answer. A vertex is to do under its number from the far end, so that the
-- lowest number to do is that of the highest vertex. Assumes nothing.
--
--   holds P s v w h x             == an edge's words as a test, as `held`: v at its tail, weight w, head h with x
--   marks_head P s ws ms v on a o == arc a, from a vertex with word v, marks its head: it has no mark yet, the edge holds it up, and the tail is marked (on)
--                                   or the edge is lost where the weight of o stands in its place
--   from_end n t               == the number of vertex t of n from the far end, and the vertex of number t
--   Hunting n vs is os bs gs   == what a hunt goes over lies in range: a row vs, an index is, arcs os beside it, marks bs and vertices to do, gs
--   Counterparts n es fs is os == os has beside each arc of an index of es what stands in its place in fs, and no arc leads to the vertex that it leaves
--   Fresh n ms ms' k           == number k stands for a vertex that is marked in ms' and was not in ms
--   Grown n ms gs ms' gs'      == marks ms with gs to do became ms' and gs': none was taken away, each new mark is to do, and nothing else is to do anew
--   Touched P n s vs is os u on j k bs gs bs' gs' == the k edges of u at places from j on were taken: marks and who is to do grew, and where os has the
--                                   counterparts and on says whether u is marked, the marks are those of the pass over these edges from last to first
--   Shut P n es fs s vs is ms gs == an edge of a vertex that is not to do has its head marked if it would mark it
--   SweepDone P n s vs is os bs gs bs' gs' == a pass was made: no mark was taken away, and what is to do then was marked in it; where os has the
--                                   counterparts, from marks that are shut its marks are those of the pass over every edge of the index from last to
--                                   first, and they are shut again
--   FirstSweep                   == document 02, Three: a pass from no marks, with the counterparts beside the index of the old edges and with all to do that
--                                   Shut asks for, finds all affected vertices of the row where each held edge of the old table has its tail above its
--                                   head: proved as first_sweep
use Rattle.std.specs.Prelude.{◌≡◌, ◌⊎◌, ◌≢◌, Bool, true, false, not, ◌&&◌, ◌||◌, List, ℕ, ◌+◌, ◌-◌, ◌≤◌, ◌<◌, length, get_or, replicate, eqb}
use Rattle.property.specs.Property.{Property}
use Rattle.frontier.specs.Waiting.{waiting_of, capacity}
use Rattle.graph.specs.Refusal.{accept}
use Rattle.graph.specs.Arc.{arc_head, arc_weight}
use Rattle.graph.specs.Edge.{Edge}
use Rattle.graph.specs.Table.{rules}
use Rattle.graph.specs.Index.{part, own, in_order, Fit, Own}
use Rattle.run.specs.Code.{bits, Marks}
use Rattle.affected.specs.Net.{lost}
use Rattle.affected.specs.Affected.{marked, sweep, affected, Closed}
use Rattle.affected.specs.Hunt.{Descends}
use Rattle.compare.specs.Code.{Faces}

-- ---- one edge

abbrev pub holds : Property → ℕ → ℕ → ℕ → ℕ → ℕ → Bool
holds P s v w h x = eqb (P.along v w) x && (not (eqb h s) && not (eqb x P.none))

abbrev pub marks_head : Property → ℕ → List ℕ → List Bool → ℕ → Bool → ℕ → ℕ → Bool
marks_head P s ws ms v on a o =
    not (marked ms (arc_head a)) && (holds P s v (arc_weight a) (arc_head a) (get_or ws (arc_head a) 0) && (on || lost P (arc_weight a) (arc_weight o)))

-- ---- a hunt

abbrev pub from_end : ℕ → ℕ → ℕ
from_end n t = n - 1 - t

pub record Hunting (n : ℕ) (vs is os bs gs : List ℕ) : Type 0 where
  pub words : length vs ≡ n
  pub index : Fit n is
  pub room : length is ≤ length os
  pub marks : Marks n bs
  pub todo : Marks n gs

pub record Counterparts (n : ℕ) (es fs : List Edge) (is os : List ℕ) : Type 0 where
  pub other : Faces n es fs is os
  pub loopless : (u j : ℕ) → u < n → get_or is u 0 ≤ j → j < get_or is (u + 1) 0 → arc_head (get_or is j 0) ≢ u

abbrev pub Fresh : ℕ → List Bool → List Bool → ℕ → Type 0
Fresh n ms ms' k = (k < n) × (marked ms (from_end n k) ≡ false) × (marked ms' (from_end n k) ≡ true)

pub record Grown (n : ℕ) (ms gs ms' gs' : List Bool) : Type 0 where
  pub keeps : (t : ℕ) → marked ms t ≡ true → marked ms' t ≡ true
  pub due : (k : ℕ) → marked gs k ≡ true → marked gs' k ≡ true
  pub new : (t : ℕ) → marked ms' t ≡ true → (marked ms t ≡ true) ⊎ (marked gs' (from_end n t) ≡ true)
  pub only : (k : ℕ) → marked gs' k ≡ true → (marked gs k ≡ true) ⊎ Fresh n ms ms' k

pub record Touched (P : Property) (n s : ℕ) (vs is os : List ℕ) (u : ℕ) (on : Bool) (j k : ℕ) (bs gs bs' gs' : List ℕ) : Type 0 where
  pub marks : Marks n bs'
  pub todo : Marks n gs'
  pub grown : Grown n (waiting_of bs) (waiting_of gs) (waiting_of bs') (waiting_of gs')
  pub swept : (es fs : List Edge) → Counterparts n es fs is os → on ≡ marked (waiting_of bs) u → waiting_of bs' ≡ sweep P es fs s vs (part is u j k) (waiting_of bs)

abbrev pub Shut : Property → ℕ → List Edge → List Edge → ℕ → List ℕ → List ℕ → List Bool → List Bool → Type 0
Shut P n es fs s vs is ms gs = (u : ℕ) → u < n → marked gs (from_end n u) ≡ false → Closed P es fs s vs (own is u) ms

pub record SweepDone (P : Property) (n s : ℕ) (vs is os bs gs bs' gs' : List ℕ) : Type 0 where
  pub marks : Marks n bs'
  pub todo : Marks n gs'
  pub keeps : (t : ℕ) → marked (waiting_of bs) t ≡ true → marked (waiting_of bs') t ≡ true
  pub only : (k : ℕ) → marked (waiting_of gs') k ≡ true → Fresh n (waiting_of bs) (waiting_of bs') k
  pub swept : (es fs : List Edge) → Counterparts n es fs is os → Shut P n es fs s vs is (waiting_of bs) (waiting_of gs)
      → (waiting_of bs' ≡ sweep P es fs s vs (in_order is 0 n) (waiting_of bs)) × Shut P n es fs s vs is (waiting_of bs') (waiting_of gs')

-- ---- the first pass

abbrev pub FirstSweep : Type 0
FirstSweep = (P : Property) (n s : ℕ) (vs is os bs gs bs' gs' : List ℕ) (es fs : List Edge) → rules n es ≡ accept → Own n is es → Counterparts n es fs is os
    → waiting_of bs ≡ replicate capacity false → Shut P n es fs s vs is (waiting_of bs) (waiting_of gs) → Descends P s vs es
    → SweepDone P n s vs is os bs gs bs' gs' → bits n bs' ≡ affected P es fs s vs n
