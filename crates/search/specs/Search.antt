-- The search from a source, breadth first, along the edges that pass a test, each vertex's in table order: vertices are found in the order of their
-- routes, first those with fewer edges and among those the lower, and each by the lightest of twins. It computes. No claim rests on it: that it finds the
-- preferred route is proved. Assumes nothing.
--
--   unfound              == the word of a vertex that is not found: no arc has it
--   no_arc               == the word of the source, which is found by no edge
--   Search               == a search: the vertices found, in order, and for each vertex the edge by which it was found, reversed, as an arc
--   is_unfound st u      == u is not found yet
--   finds b st e         == where b holds, the search after the head of e was found by e
--   look f st e          == the search after e: its head is found by it where e passes the test f and the head is not found yet
--   expand f es st u     == the search after the edges of u, in table order
--   begun n s            == the search before its first step: the source is found
--   search f es t k i st == the search from its entry i on: each vertex found is expanded in its turn, until t is found, at most k of them
--   is_searched p ws t e      == e is searched: for handovers and reach every edge, else the eligible ones, where ws are the best values from the source
--   searched p es n s t  == the whole search for a route of property p
use Rattle.std.specs.Prelude.{Bool, true, false, ◌&&◌, ◌||◌, ℕ, zero, suc, length, get_or, set, replicate, eqb, ltb}
use mathlib.Core.List.{List, [], ◌∷◌, ◌++◌, foldl}
use Rattle.property.specs.Property.{M, property}
use Rattle.graph.specs.Edge.{Edge, leaving}
use Rattle.graph.specs.Arc.{arc}
use Rattle.run.specs.Run.{word}
use Rattle.run.specs.Start.{values_from}
use Rattle.answers.specs.Routing.{eligible}

abbrev pub unfound : ℕ
unfound = M

abbrev pub no_arc : ℕ
no_arc = 0

pub record Search : Type 0 where
  pub queue : List ℕ
  pub via : List ℕ

abbrev pub is_unfound : Search → ℕ → Bool
is_unfound st u = eqb (get_or st.via u 0) unfound

unfoldable pub finds : Bool → Search → Edge → Search
finds true st e = record { queue = st.queue ++ e.head ∷ []; via = set st.via e.head (arc e.tail e.weight) }
finds false st e = st

unfoldable pub look : (Edge → Bool) → Search → Edge → Search
look f st e = finds (f e && is_unfound st e.head) st e

unfoldable pub expand : (Edge → Bool) → List Edge → Search → ℕ → Search
expand f es st u = foldl (look f) st (leaving u es)

abbrev pub begun : ℕ → ℕ → Search
begun n s = record { queue = s ∷ []; via = set (replicate n unfound) s no_arc }

unfoldable pub search : (Edge → Bool) → List Edge → ℕ → ℕ → ℕ → Search → Search
search f es t zero i st = st
search f es t (suc k) i st =
    elim (ltb i (length st.queue) && is_unfound st t) [ true ↦ search f es t k (suc i) (expand f es st (get_or st.queue i 0)) | false ↦ st ]

abbrev pub is_searched : ℕ → List ℕ → ℕ → Edge → Bool
is_searched p ws t e = eqb p 2 || (ltb 4 p || eligible p ws (word (property p) ws t) e)

abbrev pub searched : ℕ → List Edge → ℕ → ℕ → ℕ → Search
searched p es n s t = search (is_searched p (values_from (property p) es n s) t) es t n 0 (begun n s)
