-- Small route calls, computed: document 02, Two and Five, on deck A of document 01 and on decks that tell best routes from others. Each line says which
-- sentence it shows and which nearby reading it shuts out; the numbers are worked out by hand. Assumes nothing.
--
--   blank a b c              == lists of a vertices, b marks and c figures, 77, 99 and 88 before the call
--   tried n cs m p s t a b c == the call on a table of lists cs and count m, with such lists for the answer
--   asked n es p s t         == the call on n vertices and the edges es, with lists of n words
--   found k vs ms fs         == it is accepted with k: the vertices are vs, with what stays after them, and the marks ms and the figures fs likewise
--   turned k i a b c         == it is turned back with number k at i, and nothing is written
--   less_a                   == deck A without 0→1
--   graph_p                  == the headroom of 0→3 is 5, by 0→1; tight edges alone would lead round by 2
--   graph_q                  == the worst stretch of 0→3 is 5, by 1→3; tight edges alone would lead round by 2
--   graph_f                  == 0→2 takes as long at once as by 1
--   graph_l                  == the two ways of 0→5 differ first at 1 and 2, and then at 4 and 3
--   graph_t                  == 0→1 stands twice: the one is quicker, the other taller
--   graph_u                  == 0→1 stands twice, and 1→2 is no taller than either
--   words k w                == lists of a table of k tails and heads and w weights, all 0
use Rattle.property.proofs.Tables.{Said}
use Rattle.property.proofs.Basics.{refl, List, [], ◌∷◌, ◌++◌, map, ℕ, length, replicate}
use Rattle.graph.specs.Refusal.{accepted, refused, Outcome}
use Rattle.graph.specs.Edge.{Edge, edge}
use Rattle.graph.specs.Table.{Columns}
use Rattle.graph.specs.Code.{columns}
use Rattle.network.specs.Caller.{holding}
use Rattle.answers.specs.Routing.{Answer, route_call}
use Rattle.worked.specs.Starred.{graph_a}
use Rattle.worked.proofs.Calls.{calls}

-- what is asked, and what is found
abbrev Lines : Type 0
Lines = List (Outcome ℕ Answer) × List (Outcome ℕ Answer)

abbrev blank : ℕ → ℕ → ℕ → Answer
blank a b c = record { vertices = replicate a 77; marks = replicate b 99; figures = replicate c 88 }

abbrev tried : ℕ → Columns → ℕ → ℕ → ℕ → ℕ → ℕ → ℕ → ℕ → Outcome ℕ Answer
tried n cs m p s t a b c = route_call n cs m (record { property = p; source = s; target = t }) (blank a b c)

abbrev asked : ℕ → List Edge → ℕ → ℕ → ℕ → Outcome ℕ Answer
asked n es p s t = tried n (holding es [] 0).memory.table (length es) p s t n n n

abbrev found : ℕ → List ℕ → List ℕ → List ℕ → Outcome ℕ Answer
found k vs ms fs = record { reply = accepted k; memory = record { vertices = vs; marks = ms; figures = fs } }

abbrev turned : ℕ → ℕ → ℕ → ℕ → ℕ → Outcome ℕ Answer
turned k i a b c = record { reply = refused k i; memory = blank a b c }

abbrev less_a : List Edge
less_a = edge 0 3 9 ∷ edge 1 2 4 ∷ edge 2 1 4 ∷ edge 3 2 2 ∷ []

abbrev graph_p : List Edge
graph_p = edge 0 1 5 ∷ edge 0 2 9 ∷ edge 1 3 5 ∷ edge 2 1 9 ∷ []

abbrev graph_q : List Edge
graph_q = edge 0 1 5 ∷ edge 0 2 1 ∷ edge 1 3 5 ∷ edge 2 1 1 ∷ []

abbrev graph_f : List Edge
graph_f = edge 0 1 3 ∷ edge 0 2 7 ∷ edge 1 2 4 ∷ []

abbrev graph_l : List Edge
graph_l = edge 0 1 1 ∷ edge 0 2 1 ∷ edge 1 4 1 ∷ edge 2 3 1 ∷ edge 3 5 1 ∷ edge 4 5 1 ∷ []

abbrev graph_t : List Edge
graph_t = edge 0 1 2 ∷ edge 0 1 9 ∷ edge 1 2 5 ∷ []

abbrev graph_u : List Edge
graph_u = edge 0 1 4 ∷ edge 0 1 7 ∷ edge 1 2 4 ∷ []

abbrev words : ℕ → ℕ → Columns
words k w = columns (replicate k 0) (replicate k 0) (replicate w 0)

-- ---- routes

-- deck A from 0 to 2, for each property: one route, whose marks differ. By 1 it takes 8, by 3 it takes 11; handovers and reach are the same by
-- both, and 1 is lower than 3
abbrev routes_A : Lines
routes_A = (
  map (λ p. asked 4 graph_a p 0 2) (1 ∷ 2 ∷ 3 ∷ 4 ∷ 5 ∷ []),
  map (λ ms. found 3 (0 ∷ 1 ∷ 2 ∷ 77 ∷ []) (ms ++ (99 ∷ 99 ∷ [])) (4 ∷ 4 ∷ 88 ∷ 88 ∷ [])) ((1 ∷ 1 ∷ []) ∷ (1 ∷ 1 ∷ []) ∷ (1 ∷ 0 ∷ []) ∷ (1 ∷ 0 ∷ []) ∷ (0 ∷ 0 ∷ []) ∷ []),
)

-- without 0→1 the way to 1 is the long one, over all vertices: the lists are just long enough. Headroom goes 9, 2, 2 and worst stretch 9, 9, 9
abbrev routes_less : Lines
routes_less = (
  map (λ p. asked 4 less_a p 0 1) (1 ∷ 2 ∷ 3 ∷ 4 ∷ 5 ∷ []),
  map (λ ms. found 4 (0 ∷ 3 ∷ 2 ∷ 1 ∷ []) (ms ++ (99 ∷ [])) (9 ∷ 2 ∷ 4 ∷ 88 ∷ []))
      ((1 ∷ 1 ∷ 1 ∷ []) ∷ (1 ∷ 1 ∷ 1 ∷ []) ∷ (1 ∷ 1 ∷ 0 ∷ []) ∷ (1 ∷ 0 ∷ 0 ∷ []) ∷ (0 ∷ 0 ∷ 0 ∷ []) ∷ []),
)

-- Headroom on P and worst stretch on Q go by 1, along an edge that is not tight; time on Q goes round by 2, for 7 and not 10. The fewest edges come
-- before the lowest vertex (F). The lowest vertex counts where two routes first differ, from the source on (L: from the target on, 3 is
-- lower). "Source equal to target gives one station", in a ring too, and with no edge at all.
abbrev routes_told : Lines
routes_told = (
  asked 4 graph_p 3 0 3 ∷ asked 4 graph_q 4 0 3 ∷ asked 4 graph_q 1 0 3 ∷ asked 3 graph_f 1 0 2 ∷ asked 6 graph_l 1 0 5
      ∷ asked 4 graph_a 1 1 1 ∷ asked 1 [] 3 0 0 ∷ [],
  found 3 (0 ∷ 1 ∷ 3 ∷ 77 ∷ []) (1 ∷ 0 ∷ 99 ∷ 99 ∷ []) (5 ∷ 5 ∷ 88 ∷ 88 ∷ [])
      ∷ found 3 (0 ∷ 1 ∷ 3 ∷ 77 ∷ []) (1 ∷ 0 ∷ 99 ∷ 99 ∷ []) (5 ∷ 5 ∷ 88 ∷ 88 ∷ [])
      ∷ found 4 (0 ∷ 2 ∷ 1 ∷ 3 ∷ []) (1 ∷ 1 ∷ 1 ∷ 99 ∷ []) (1 ∷ 1 ∷ 5 ∷ 88 ∷ [])
      ∷ found 2 (0 ∷ 2 ∷ 77 ∷ []) (1 ∷ 99 ∷ 99 ∷ []) (7 ∷ 88 ∷ 88 ∷ [])
      ∷ found 4 (0 ∷ 1 ∷ 4 ∷ 5 ∷ 77 ∷ 77 ∷ []) (1 ∷ 1 ∷ 1 ∷ 99 ∷ 99 ∷ 99 ∷ []) (1 ∷ 1 ∷ 1 ∷ 88 ∷ 88 ∷ 88 ∷ [])
      ∷ found 1 (1 ∷ 77 ∷ 77 ∷ 77 ∷ []) (99 ∷ 99 ∷ 99 ∷ 99 ∷ []) (88 ∷ 88 ∷ 88 ∷ 88 ∷ [])
      ∷ found 1 (0 ∷ []) (99 ∷ []) (88 ∷ [])
      ∷ [],
)

-- "for each segment .. the lowest figure with which the route keeps its value": on T the quick one, but for headroom, whose 5 wants the tall one. On U the
-- headroom is 4, by 1→2, and the lower twin keeps it; "its marks go by these": 1→2 leaves the 4 that 0→1 sets, though from 7 it would set it
abbrev routes_parallel : Lines
routes_parallel = (
  map (λ p. asked 3 graph_t p 0 2) (1 ∷ 2 ∷ 3 ∷ 4 ∷ 5 ∷ []) ++ asked 3 graph_u 3 0 2 ∷ asked 3 graph_u 3 0 1 ∷ [],
  found 3 (0 ∷ 1 ∷ 2 ∷ []) (1 ∷ 1 ∷ 99 ∷ []) (2 ∷ 5 ∷ 88 ∷ [])
      ∷ found 3 (0 ∷ 1 ∷ 2 ∷ []) (1 ∷ 1 ∷ 99 ∷ []) (2 ∷ 5 ∷ 88 ∷ [])
      ∷ found 3 (0 ∷ 1 ∷ 2 ∷ []) (1 ∷ 1 ∷ 99 ∷ []) (9 ∷ 5 ∷ 88 ∷ [])
      ∷ found 3 (0 ∷ 1 ∷ 2 ∷ []) (1 ∷ 1 ∷ 99 ∷ []) (2 ∷ 5 ∷ 88 ∷ [])
      ∷ found 3 (0 ∷ 1 ∷ 2 ∷ []) (0 ∷ 0 ∷ 99 ∷ []) (2 ∷ 5 ∷ 88 ∷ [])
      ∷ found 3 (0 ∷ 1 ∷ 2 ∷ []) (1 ∷ 0 ∷ 99 ∷ []) (4 ∷ 4 ∷ 88 ∷ [])
      ∷ found 2 (0 ∷ 1 ∷ 77 ∷ []) (1 ∷ 99 ∷ 99 ∷ []) (7 ∷ 88 ∷ 88 ∷ [])
      ∷ [],
)

-- ---- refusals

-- "The lowest number that applies is given": each line mends what the line before was refused for. n is 0, or over 256; a list of the table, of
-- vertices, of marks, of figures is a word too short; the count is over 2,048; a record stands twice, the second time at 1, and a twin after a greater
-- one; the property is 0, or 6, here with twins too; the source is no vertex, and then the target; and from 3 there is no route to 0.
abbrev routes_refused : Lines
routes_refused = (
  tried 0 (words 0 0) 2049 6 4 4 0 0 0 ∷ tried 257 (words 0 0) 2049 6 4 4 0 0 0
      ∷ tried 4 (words 2048 2047) 2049 6 4 4 4 4 4 ∷ tried 4 (words 2048 2048) 2049 6 4 4 3 4 4
      ∷ tried 4 (words 2048 2048) 2049 6 4 4 4 3 4 ∷ tried 4 (words 2048 2048) 2049 6 4 4 4 4 3 ∷ tried 4 (words 2048 2048) 2049 6 4 4 4 4 4
      ∷ asked 4 (edge 0 1 4 ∷ edge 0 1 4 ∷ []) 6 4 4 ∷ asked 4 (edge 0 1 7 ∷ edge 0 1 4 ∷ []) 6 4 4
      ∷ asked 4 graph_a 0 4 4 ∷ asked 4 (edge 0 1 4 ∷ edge 0 1 7 ∷ []) 6 4 4 ∷ asked 4 graph_a 1 4 0 ∷ asked 4 graph_a 1 3 4 ∷ asked 4 graph_a 1 3 0 ∷ [],
  turned 1 0 0 0 0 ∷ turned 1 0 0 0 0 ∷ turned 2 0 4 4 4 ∷ turned 2 0 3 4 4 ∷ turned 2 0 4 3 4 ∷ turned 2 0 4 4 3 ∷ turned 4 0 4 4 4 ∷ turned 4 1 4 4 4 ∷ turned 4 1 4 4 4
      ∷ turned 5 0 4 4 4 ∷ turned 5 0 4 4 4 ∷ turned 6 0 4 4 4 ∷ turned 6 0 4 4 4 ∷ turned 15 0 4 4 4 ∷ [],
)

-- ---- computed

routes_said : Said (routes_A ∷ routes_less ∷ routes_told ∷ routes_parallel ∷ routes_refused ∷ [])
unfolding calls
routes_said = refl
