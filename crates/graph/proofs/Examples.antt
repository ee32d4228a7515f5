-- Small tables, computed: document 01, "Network", "The network as it is now" and numbers 1, 2 and 4. Each line says which sentence it
-- shows and which nearby reading it shuts out. Assumes nothing.
--
-- A table of examples lists what is asked with what document 01 says; one equation holds for all of its lines.
use Rattle.property.proofs.Basics.{◌≡◌, refl, true, false, List, [], ◌∷◌, map, Memᴰ-head, Memᴰ-tail, ℕ, ◌+◌, ◌/◌, ◌%◌, replicate}
use Rattle.property.specs.Property.{M, Property, sssp, bfs, sswp, ssnp, ssr}
use Rattle.graph.specs.Refusal.{Verdict, accept, refuse, ◌▷◌, refuse_if, accepted, refused, replied, choose, outcome, over}
use Rattle.graph.specs.Edge.{Edge, edge, reverse, keep_if, keep, exists, among, leaving, zip, edges, range}
use Rattle.graph.specs.Route.{Route, here, step}
use Rattle.graph.specs.Table.{Columns, rules, size, short_table, table, insert, delete, update}
use Rattle.graph.specs.Sorted as order

-- ---- the table's rules: number 4 and its place, for 4 vertices

abbrev judged_tables : List (List Edge × Verdict)
judged_tables =
    -- an empty table breaks no rule
    ([], accept)
    -- "the table ascends by tail, head, figure": heads need not ascend from tail to tail, nor figures from pair to pair
    ∷ (edge 0 1 1 ∷ edge 0 3 9 ∷ edge 1 0 1 ∷ edge 3 2 5 ∷ [], accept)
    -- out of order by tail: the place is the later record's, not that of the one before it
    ∷ (edge 1 0 1 ∷ edge 0 1 1 ∷ [], refuse 4 1)
    -- out of order by head: a table ordered by tail alone is refused
    ∷ (edge 0 1 1 ∷ edge 0 3 1 ∷ edge 0 2 1 ∷ edge 1 0 1 ∷ [], refuse 4 2)
    -- twins: one pair with two figures, the lower one first; the place is the later one's
    ∷ (edge 0 1 4 ∷ edge 0 1 5 ∷ edge 0 1 65535 ∷ edge 0 2 4 ∷ [], accept)
    ∷ (edge 0 1 5 ∷ edge 0 1 4 ∷ [], refuse 4 1)
    -- the same record twice: order is strict
    ∷ (edge 0 1 4 ∷ edge 0 1 4 ∷ [], refuse 4 1)
    ∷ (edge 0 1 4 ∷ edge 0 2 4 ∷ edge 0 2 4 ∷ [], refuse 4 2)
    -- a pair that comes again further on
    ∷ (edge 0 1 4 ∷ edge 0 2 4 ∷ edge 0 1 4 ∷ [], refuse 4 2)
    -- the same two vertices the other way round are another pair
    ∷ (edge 0 1 4 ∷ edge 1 0 4 ∷ [], accept)
    -- "tail and head differ": in a table a loop is number 4, not 8
    ∷ (edge 2 2 1 ∷ [], refuse 4 0)
    ∷ (edge 0 1 1 ∷ edge 2 2 1 ∷ [], refuse 4 1)
    -- "figure (1 to 65,535)": in a table it is number 4, not 9
    ∷ (edge 0 1 0 ∷ [], refuse 4 0)
    ∷ (edge 0 1 65535 ∷ [], accept)
    ∷ (edge 0 1 65536 ∷ [], refuse 4 0)
    ∷ (edge 0 1 1 ∷ edge 0 2 0 ∷ [], refuse 4 1)
    ∷ (edge 0 1 1 ∷ edge 0 2 65536 ∷ [], refuse 4 1)
    -- "Stations are 0 to n−1": n itself is no vertex, and in a table that is number 4, not 6
    ∷ (edge 3 0 1 ∷ edge 3 2 1 ∷ [], accept)
    ∷ (edge 4 0 1 ∷ [], refuse 4 0)
    ∷ (edge 0 4 1 ∷ [], refuse 4 0)
    ∷ (edge 0 1 1 ∷ edge 0 4 1 ∷ [], refuse 4 1)
    ∷ (edge 0 1 1 ∷ edge 4 0 1 ∷ [], refuse 4 1)
    -- "the first such index", whatever the rule: no rule goes before another
    ∷ (edge 0 1 1 ∷ edge 2 2 1 ∷ edge 1 0 1 ∷ edge 5 5 0 ∷ [], refuse 4 1)
    ∷ (edge 0 1 65536 ∷ edge 9 0 1 ∷ [], refuse 4 0)
    ∷ []

rules_judge : map (λ c. rules 4 c.0) judged_tables ≡ map (λ c. c.1) judged_tables
unfolding order.rules order.follow ◌▷◌ refuse_if
rules_judge = refl

-- ---- numbers 1, 2 and 4 of lent lists

-- n 1 and 256 are good, 0 and 257 are not; a limit of "below 256" or "up to 257" is shut out
sizes : map size (0 ∷ 1 ∷ 256 ∷ 257 ∷ []) ≡ refuse 1 0 ∷ accept ∷ accept ∷ refuse 1 0 ∷ []
unfolding refuse_if
sizes = refl

abbrev lists : ℕ → ℕ → ℕ → Columns
lists i j k = record { tails = replicate i 0; heads = replicate j 0; weights = replicate k 0 }

-- "each at least 2,048 words": each of the three lists is measured, longer ones are good
short_tables : map short_table (lists 2048 2048 2048 ∷ lists 2047 2048 2048 ∷ lists 2048 2047 2048 ∷ lists 2048 2048 2047 ∷ lists 2049 2050 2051 ∷ [])
    ≡ accept ∷ refuse 2 0 ∷ refuse 2 0 ∷ refuse 2 0 ∷ accept ∷ []
unfolding refuse_if
short_tables = refl

-- record 0 is good, record 1 comes again as record 2, record 3 is no edge
abbrev columns : Columns
columns = record { tails = 0 ∷ 0 ∷ 0 ∷ 7 ∷ []; heads = 1 ∷ 2 ∷ 2 ∷ 7 ∷ []; weights = 5 ∷ 6 ∷ 6 ∷ 0 ∷ [] }

-- records from the count on are never judged; a count over 2,048 has place 0 though record 0 is good
counts : map (table 4 columns) (0 ∷ 1 ∷ 2 ∷ 3 ∷ 4 ∷ 2049 ∷ []) ≡ accept ∷ accept ∷ accept ∷ refuse 4 2 ∷ refuse 4 2 ∷ refuse 4 0 ∷ []
unfolding order.rules order.follow ◌▷◌ refuse_if edges zip
counts = refl

-- 2,049 records in table order: tails 0 to 128, each to the heads from 129 on
abbrev crowd : Columns
crowd = record {
  tails = map (λ i. i / 16) (range 0 2049);
  heads = map (λ i. 129 + i % 16) (range 0 2049);
  weights = map (λ i. 1) (range 0 2049);
}

-- "at most 2,048": record 2,048 is good and record 2,049 is not, though it keeps the rules; its place is 0, not an index
crowded : map (table 256 crowd) (2048 ∷ 2049 ∷ []) ≡ accept ∷ refuse 4 0 ∷ []
unfolding order.rules order.follow ◌▷◌ refuse_if edges zip range
crowded = refl

-- "a count of records": the edges are those below it, in the lists' order
edges_below : map (edges (0 ∷ 1 ∷ 9 ∷ []) (1 ∷ 2 ∷ 9 ∷ []) (5 ∷ 6 ∷ 9 ∷ [])) (0 ∷ 1 ∷ 2 ∷ [])
    ≡ [] ∷ (edge 0 1 5 ∷ []) ∷ (edge 0 1 5 ∷ edge 1 2 6 ∷ []) ∷ []
unfolding edges zip
edges_below = refl

-- ---- one edge more, one edge less

abbrev pair : List Edge
pair = edge 1 0 7 ∷ edge 1 2 7 ∷ []

-- "an add puts in its record .. the list stays in table order": an edge, a list, and the list with the edge put in
abbrev insertions : List (Edge × List Edge × List Edge)
insertions =
    (edge 1 0 5, [], edge 1 0 5 ∷ [])
    -- in front, by its tail and by its head
    ∷ (edge 0 3 5, pair, edge 0 3 5 ∷ edge 1 0 7 ∷ edge 1 2 7 ∷ [])
    ∷ (edge 1 0 5, edge 1 2 7 ∷ [], edge 1 0 5 ∷ edge 1 2 7 ∷ [])
    -- between two of its tail
    ∷ (edge 1 1 5, pair, edge 1 0 7 ∷ edge 1 1 5 ∷ edge 1 2 7 ∷ [])
    -- at the end, by its head and by its tail
    ∷ (edge 1 3 5, pair, edge 1 0 7 ∷ edge 1 2 7 ∷ edge 1 3 5 ∷ [])
    ∷ (edge 2 0 5, pair, edge 1 0 7 ∷ edge 1 2 7 ∷ edge 2 0 5 ∷ [])
    -- before and after its twin, by its figure
    ∷ (edge 1 0 5, pair, edge 1 0 5 ∷ edge 1 0 7 ∷ edge 1 2 7 ∷ [])
    ∷ (edge 1 0 9, pair, edge 1 0 7 ∷ edge 1 0 9 ∷ edge 1 2 7 ∷ [])
    ∷ []

insertions_said : map (λ c. insert c.0 c.1) insertions ≡ map (λ c. c.2) insertions
unfolding order.insert
insertions_said = refl

-- "a take strikes the one it names": an edge, and what is left of the two
abbrev deletions : List (Edge × List Edge)
deletions =
    -- by tail, head and figure
    (edge 1 0 7, edge 1 2 7 ∷ [])
    ∷ (edge 1 2 7, edge 1 0 7 ∷ [])
    -- with another figure nothing is struck
    ∷ (edge 1 2 9, pair)
    -- the reversed pair is another, and one that is absent strikes nothing
    ∷ (edge 0 1 7, pair)
    ∷ []

deletions_said : map (λ c. delete c.0 pair) deletions ≡ map (λ c. c.1) deletions
unfolding order.delete
deletions_said = refl

-- "sets the figure of the record that it names", "the list stays in table order": the edge that has it, the edge that comes, and what two twins and
-- another edge become
abbrev updates : List (Edge × Edge × List Edge)
updates =
    (edge 1 0 2, edge 1 0 9, edge 1 0 7 ∷ edge 1 0 9 ∷ edge 1 2 7 ∷ [])
    ∷ (edge 1 0 7, edge 1 0 1, edge 1 0 1 ∷ edge 1 0 2 ∷ edge 1 2 7 ∷ [])
    ∷ (edge 1 0 7, edge 1 0 3, edge 1 0 2 ∷ edge 1 0 3 ∷ edge 1 2 7 ∷ [])
    ∷ (edge 1 0 7, edge 1 0 7, edge 1 0 2 ∷ edge 1 0 7 ∷ edge 1 2 7 ∷ [])
    ∷ []

updates_said : map (λ c. update c.0 c.1 (edge 1 0 2 ∷ pair)) updates ≡ map (λ c. c.2) updates
unfolding order.insert order.delete
updates_said = refl

-- ---- tests and views of edges

-- an edge is among others by its three words: with another weight it is not
among_pair : map (among pair) (edge 1 0 7 ∷ edge 1 0 8 ∷ edge 0 1 7 ∷ []) ≡ true ∷ false ∷ false ∷ []
unfolding exists
among_pair = refl

-- a vertex's edges are those of which it is the tail, in table order
leaving_one : map (λ i. leaving i (edge 0 1 4 ∷ edge 1 0 7 ∷ edge 1 2 6 ∷ [])) (1 ∷ 2 ∷ []) ≡ (edge 1 0 7 ∷ edge 1 2 6 ∷ []) ∷ [] ∷ []
unfolding keep keep_if
leaving_one = refl

-- reversed edges change tail with head and keep weight and order
reversed : map reverse pair ≡ edge 0 1 7 ∷ edge 2 1 7 ∷ []
reversed = refl

ranges : map (range 2) (0 ∷ 1 ∷ 3 ∷ []) ≡ [] ∷ (2 ∷ []) ∷ (2 ∷ 3 ∷ 4 ∷ []) ∷ []
unfolding range
ranges = refl

-- ---- routes

-- "one or more stations": one station alone is a route, of the value at the source, also where there is no segment
route_alone : Route sswp [] 2 2 M
route_alone = here

-- 0→1 of weight 4, then 1→2 of weight 9: "Its value starts at the source's and goes along", from source to head
abbrev path : List Edge
path = edge 0 1 4 ∷ edge 1 2 9 ∷ []

abbrev onward : (P : Property) → Route P path 0 2 (P.along (P.along P.start 4) 9)
onward P = step {e = edge 1 2 9} (step {e = edge 0 1 4} here (Memᴰ-head refl)) (Memᴰ-tail (Memᴰ-head refl))

route_values : Route sssp path 0 2 13 × Route bfs path 0 2 2 × Route sswp path 0 2 4 × Route ssnp path 0 2 9 × Route ssr path 0 2 1
route_values = (onward sssp, onward bfs, onward sswp, onward ssnp, onward ssr)

-- ---- verdicts

-- "The lowest number that applies is given": the first refusal of a chain decides, later ones are not heard
chains : (refuse 2 0 ▷ refuse 1 7) ∷ (accept ▷ refuse 4 3) ∷ (accept ▷ accept) ∷ [] ≡ refuse 2 0 ∷ refuse 4 3 ∷ accept ∷ []
unfolding ◌▷◌
chains = refl

-- "No lent memory changes": a refused call keeps the lists as they were, an accepted one has the new
outcomes : map (λ v. outcome {A = ℕ} {L = List ℕ} v 8 (1 ∷ []) (2 ∷ [])) (accept ∷ refuse 4 3 ∷ [])
    ≡ record { reply = accepted 8; memory = 1 ∷ [] } ∷ record { reply = refused 4 3; memory = 2 ∷ [] } ∷ []
unfolding replied choose
outcomes = refl

-- "words past those stay"
overs : map (over {A = ℕ} (1 ∷ 2 ∷ [])) ((7 ∷ 8 ∷ 9 ∷ []) ∷ (7 ∷ 8 ∷ []) ∷ []) ≡ (1 ∷ 2 ∷ 9 ∷ []) ∷ (1 ∷ 2 ∷ []) ∷ []
overs = refl
