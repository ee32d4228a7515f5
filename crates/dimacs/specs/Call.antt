-- The calls on text: document 01, "Text" and "Turned back". Assumes nothing.
--
--   Size                    == a network's n and count of edges
--   filled es cs            == the table lists with the edges es in front; words past them stay
--   read_call text cs       == reading network text into table lists: numbers 2, then 14; the reply is n and the count
--   write_call n cs m out   == writing a table's text: numbers 1, 2 (table lists), 4, and last 2 (the buffer); the reply is its length
--   sources_call n text out == reading a source file into a list of at least 256 words: numbers 1, 2, 14; the reply is COUNT,
--                                 and the vertices are stored from 0
--   judged r                     == number 14 at the line of the refusal
--   vertex_count r, edges_read r == n and the edges of the network that was read
--   sources_read r               == the sources that were read
use Rattle.std.specs.Prelude.{List, [], map, ℕ, length, ltb}
use Rattle.graph.specs.Refusal.{Verdict, accept, refuse, ◌▷◌, refuse_if, Outcome, outcome, over}
use Rattle.graph.specs.Edge.{Edge}
use Rattle.graph.specs.Table.{Columns, edges_of, size, short_table, table}
use Rattle.dimacs.specs.Read.{Read, good, bad}
use Rattle.dimacs.specs.Network as net
use Rattle.dimacs.specs.Sources as src

-- number 14 at the line of the refusal
unfoldable pub judged : {S : Type 0} → Read S → Verdict
judged (good st) = accept
judged (bad k) = refuse 14 k

-- ---- reading network text

pub record Size : Type 0 where
  pub vertices : ℕ
  pub count : ℕ

unfoldable pub vertex_count : Read net.State → ℕ
vertex_count (good net.start) = 0
vertex_count (good (net.within n m es)) = n
vertex_count (bad k) = 0

unfoldable pub edges_read : Read net.State → List Edge
edges_read (good net.start) = []
edges_read (good (net.within n m es)) = es
edges_read (bad k) = []

abbrev pub filled : List Edge → Columns → Columns
filled es cs = record {
  tails = over (map (λ e. e.tail) es) cs.tails;
  heads = over (map (λ e. e.head) es) cs.heads;
  weights = over (map (λ e. e.weight) es) cs.weights;
}

unfoldable pub read_call : List ℕ → Columns → Outcome Size Columns
read_call text cs =
    let r = net.read_network text in
    outcome (short_table cs ▷ judged r) (record { vertices = vertex_count r; count = length (edges_read r) }) (filled (edges_read r) cs) cs

-- ---- writing network text

unfoldable pub write_call : ℕ → Columns → ℕ → List ℕ → Outcome ℕ (List ℕ)
write_call n cs m out =
    let text = net.written n (edges_of cs m) in
    outcome (size n ▷ short_table cs ▷ table n cs m ▷ refuse_if (ltb (length out) (length text)) 2 0) (length text) (over text out) out

-- ---- reading a source file

unfoldable pub sources_read : Read src.State → List ℕ
sources_read (good src.start) = []
sources_read (good (src.within k ss)) = ss
sources_read (bad k) = []

unfoldable pub sources_call : ℕ → List ℕ → List ℕ → Outcome ℕ (List ℕ)
sources_call n text out =
    let r = src.read_sources n text in
    outcome (size n ▷ refuse_if (ltb (length out) src.max_sources) 2 0 ▷ judged r) (length (sources_read r)) (over (sources_read r) out) out
