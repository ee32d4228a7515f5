-- The edge table: its lent lists, its rules, how one edge is put in, struck or given another weight, and refusals 1, 2 and 4 of every call that takes
-- a table: document 01, "Network", "The network as it is now" and "Turned back"; document 02, One and Five. Assumes nothing.
--
--   Columns         == the three lent lists of a table: tails, heads, weights
--   edges_of cs m   == the edges of a table: the records below the count m
--   is_weight w     == w is 1 to 65,535
--   is_edge n e     == tail and head are different vertices below n, and the weight is one
--   table_order     == the order of a table's edges
--   follow n i p es == the records es, the first of them at index i, keep the rules after the record p
--   rules n es      == number 4, at the first index whose record breaks the table's rules: each record is an edge, and comes
--                        after the one before it in table order ("the table ascends by tail, head, figure"): no three words stand twice
--   size n               == number 1: n is 0 or over 256
--   short_table cs       == number 2: a list of the table has fewer than 2,048 words, whatever the count
--   table n cs m         == number 4: a count over 2,048, at 0; or the first record that breaks the rules
--   bare_faults n cs m v == numbers 1, 2 and 4 of a call that takes a table and no landmarks, with what that call judges between 2 and 4
--   insert e es          == es with e put in, in table order
--   delete e es          == es with e struck, by its three words
--   update o e es        == es with e in the place of o, in table order: o has the weight of e now
use Rattle.std.specs.Prelude.{Bool, not, ◌&&◌, ◌||◌, List, ℕ, length, eqb, ltb, leb}
use Rattle.graph.specs.Limits.{max_vertices, max_edges, max_weight}
use Rattle.graph.specs.Refusal.{Verdict, ◌▷◌, refuse_if}
use Rattle.graph.specs.Edge.{Edge, same, precedes, edges}
use Rattle.graph.specs.Sorted.{Order}
use Rattle.graph.specs.Sorted as order

pub record Columns : Type 0 where
  pub tails : List ℕ
  pub heads : List ℕ
  pub weights : List ℕ

abbrev pub edges_of : Columns → ℕ → List Edge
edges_of cs m = edges cs.tails cs.heads cs.weights m

-- ---- the rules

abbrev pub is_weight : ℕ → Bool
is_weight w = ltb 0 w && leb w max_weight

abbrev pub is_edge : ℕ → Edge → Bool
is_edge n e = ltb e.tail n && (ltb e.head n && (not (eqb e.tail e.head) && is_weight e.weight))

abbrev pub table_order : Order Edge
table_order = record { before = precedes; same = same }

abbrev pub follow : ℕ → ℕ → Edge → List Edge → Verdict
follow n i p es = order.follow table_order (is_edge n) i p es

abbrev pub rules : ℕ → List Edge → Verdict
rules n es = order.rules table_order (is_edge n) es

-- ---- refusals 1, 2 and 4

abbrev pub size : ℕ → Verdict
size n = refuse_if (eqb n 0 || ltb max_vertices n) 1 0

abbrev pub short_table : Columns → Verdict
short_table cs = refuse_if (ltb (length cs.tails) max_edges || (ltb (length cs.heads) max_edges || ltb (length cs.weights) max_edges)) 2 0

abbrev pub table : ℕ → Columns → ℕ → Verdict
table n cs m = refuse_if (ltb max_edges m) 4 0 ▷ rules n (edges_of cs m)

abbrev pub bare_faults : ℕ → Columns → ℕ → Verdict → Verdict
bare_faults n cs m v = size n ▷ short_table cs ▷ v ▷ table n cs m

-- ---- one edge more, one edge less, another weight

abbrev pub insert : Edge → List Edge → List Edge
insert e es = order.insert table_order e es

abbrev pub delete : Edge → List Edge → List Edge
delete e es = order.delete table_order e es

abbrev pub update : Edge → Edge → List Edge → List Edge
update o e es = insert e (delete o es)
