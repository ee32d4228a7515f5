-- Network text: the 9th DIMACS Challenge's shortest-path layout: document 01, "Text"; document 02, Five. First what a good text is, by its lines,
-- with no reader in it; then the reader; then the writer. Assumes nothing.
--
--   Item                                       == a line that is no comment: `p sp N M2` or `a TAIL HEAD FIGURE`; vertices of an edge count from 0
--   item_of x                                  == its bytes; in the text vertices count from 1
--   Distinct es                                == no edge stands twice in es: of twins, which have one tail and head, the weights differ
--   sorted es                                  == es in table order
--   Good text n es                             == text is a good text, of a network with n vertices and the edges es
--   IsGood text                                == text is a good text
--   item_in l                                  == the item that a line says
--   State                                      == where the reader stands: before the p line, or after it with n, M2 and the edges so far
--   opens n m                                  == a p line with which some good text goes on: n 1 to 256, M2 at most 2,048, and 0 where n is 1
--   takes n m es e                             == an a line with which some good text goes on
--   read_network text                          == the state at the end, or the line of the refusal
--   written n es                               == the text that is written for a network: no comment, ascending
--   problem_mark, arc_mark                     == the bytes `p sp` and `a`
--   Edges n es                                 == each of es is an edge of n vertices
--   problem_from vs, arc_from vs, arc_of t h w == the item of a line with these numbers; none where there is none
--   or_else o p                                == the first of two that is there
--   act st x                                   == the state after an item; none where no good text can go on with it
--   complete st                                == the state may be the last
use Rattle.std.specs.Prelude.{◌≡◌, Bool, false, ◌&&◌, ◌||◌, not, cond, ℕ, zero, suc, ◌≤◌, ◌<◌, ltb, leb, eqb, length}
use mathlib.Core.List.{List, [], ◌∷◌, ◌++◌, map, foldl}
use Rattle.std.proofs.Math.Option.{Option, none, some, bind}
use Rattle.graph.specs.Limits.{max_vertices, max_edges}
use Rattle.graph.specs.Edge.{Edge, edge, among}
use Rattle.graph.specs.Table.{is_edge, table_order, insert}
use Rattle.graph.specs.Sorted.{All}
use Rattle.graph.specs.Sorted as order
use Rattle.dimacs.specs.Lines.{Spelled, fields_of, joined}
use Rattle.dimacs.specs.Read.{after, fields, Read, read}

-- ---- what a good text is

pub data Item : Type 0 where
  problem : ℕ → ℕ → Item
  arc : Edge → Item

-- 112 32 115 112 is `p sp`, 97 is `a`
abbrev pub problem_mark : List ℕ
problem_mark = 112 ∷ 32 ∷ 115 ∷ 112 ∷ []

abbrev pub arc_mark : List ℕ
arc_mark = 97 ∷ []

unfoldable pub item_of : Item → List ℕ
item_of (problem n m) = problem_mark ++ fields_of (n ∷ m ∷ [])
item_of (arc e) = arc_mark ++ fields_of (suc e.tail ∷ suc e.head ∷ e.weight ∷ [])

abbrev pub Distinct : List Edge → Type 0
Distinct es = order.Distinct table_order es

abbrev pub Edges : ℕ → List Edge → Type 0
Edges n es = All (is_edge n) es

abbrev pub sorted : List Edge → List Edge
sorted arcs = foldl (λ es e. insert e es) [] arcs

pub record Good (text : List ℕ) (n : ℕ) (es : List Edge) : Type 0 where
  pub arcs : List Edge
  pub spelled : Spelled item_of text (problem n (length arcs) ∷ map arc arcs)
  pub some_vertex : 0 < n
  pub vertices : n ≤ max_vertices
  pub few : length arcs ≤ max_edges
  pub edges : Edges n arcs
  pub distinct : Distinct arcs
  pub table : es ≡ sorted arcs

abbrev pub IsGood : List ℕ → Type 0
IsGood text = (n : ℕ) × (es : List Edge) × Good text n es

-- ---- the reader

unfoldable pub problem_from : List ℕ → Option Item
problem_from [] = none
problem_from (n ∷ []) = none
problem_from (n ∷ m ∷ []) = some (problem n m)
problem_from (n ∷ m ∷ x ∷ xs) = none

-- vertices count from 1 in the text
unfoldable pub arc_of : ℕ → ℕ → ℕ → Option Item
arc_of zero h w = none
arc_of (suc t) zero w = none
arc_of (suc t) (suc h) w = some (arc (edge t h w))

unfoldable pub arc_from : List ℕ → Option Item
arc_from [] = none
arc_from (t ∷ []) = none
arc_from (t ∷ h ∷ []) = none
arc_from (t ∷ h ∷ w ∷ []) = arc_of t h w
arc_from (t ∷ h ∷ w ∷ x ∷ xs) = none

unfoldable pub or_else : {A : Type 0} → Option A → Option A → Option A
or_else none o = o
or_else (some a) o = some a

unfoldable pub item_in : List ℕ → Option Item
item_in l = or_else (bind (after problem_mark l) (λ r. bind (fields 2 r) problem_from)) (bind (after arc_mark l) (λ r. bind (fields 3 r) arc_from))

pub data State : Type 0 where
  start : State
  within : ℕ → ℕ → List Edge → State

unfoldable pub opens : ℕ → ℕ → Bool
opens n m = ltb 0 n && (leb n max_vertices && (leb m max_edges && (ltb 1 n || eqb m 0)))

unfoldable pub takes : ℕ → ℕ → List Edge → Edge → Bool
takes n m es e = ltb (length es) m && (is_edge n e && not (among es e))

unfoldable pub act : State → Item → Option State
act start (problem n m) = cond (opens n m) (some (within n m [])) none
act start (arc e) = none
act (within n m es) (problem n' m') = none
act (within n m es) (arc e) = cond (takes n m es e) (some (within n m (insert e es))) none

unfoldable pub complete : State → Bool
complete start = false
complete (within n m es) = eqb (length es) m

unfoldable pub read_network : List ℕ → Read State
read_network text = read item_in act complete start text

-- ---- the writer

unfoldable pub written : ℕ → List Edge → List ℕ
written n es = joined (map item_of (problem n (length es) ∷ map arc es))
