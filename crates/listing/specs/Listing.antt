-- What the values program prints for the bytes of deck.gr and deck.ss: document 01, "Text". Assumes nothing.
--
--   max_file                           == a file of more than 65,536 bytes is refused with number 2
--   header                             == the first line: the names of the columns
--   spaced vs                          == numbers parted by single spaces, and a line feed
--   Graph                              == a network that was read: n and its edges
--   graph n es                         == the network of n vertices and the edges es
--   landmarks_of d                     == its landmarks: those of choice, four or n if fewer
--   held_of d                          == what is lent to its opening
--   network_of d                       == the network, opened
--   query_of d w s p                   == the query for property p from s: an empty schedule, and n words for each list of the answer
--   value_at d w s t p                 == property p from s to t: the settled word of that query
--   line_of d w s t                    == the line of a source and a vertex: both from 1, then the five properties
--   listed d ss                        == the header, and per source in file order and vertex ascending a line
--   refused_line k i                   == `refused`, number, place
--   graph_verdict gr                   == deck.gr judged alone: number 2 for its size, then 14
--   sources_verdict n ss               == deck.ss judged alone, for a network of n vertices
--   files_verdict gr ss                == whether either file is refused, deck.gr first
--   output v text                      == the text where the verdict v accepts, else the refused line
--   printed gr ss                      == the whole output: a refusal in either file, or what is listed
--   lines_of .. ts, source_lines .. ss == the lines of a source, and of all sources
--   graph_of r                         == the network that was read
use Rattle.std.specs.Prelude.{List, [], ◌∷◌, ◌++◌, map, ℕ, suc, length, ltb}
use Rattle.property.specs.Property.{property, properties}
use Rattle.graph.specs.Limits.{max_landmarks}
use Rattle.graph.specs.Refusal.{Verdict, accept, refuse, ◌▷◌, refuse_if, Outcome}
use Rattle.graph.specs.Edge.{Edge, range}
use Rattle.run.specs.Run.{Tally, word}
use Rattle.network.specs.Network.{Network}
use Rattle.network.specs.Query.{Words}
use Rattle.network.specs.Choice.{choice}
use Rattle.network.specs.Caller.{holding, opened_network, queried}
use Rattle.dimacs.specs.Decimal.{digits}
use Rattle.dimacs.specs.Lines.{fields_of}
use Rattle.dimacs.specs.Read.{Read}
use Rattle.dimacs.specs.Network.{State, read_network}
use Rattle.dimacs.specs.Sources.{read_sources}
use Rattle.dimacs.specs.Call.{judged, vertex_count, edges_read, sources_read}

abbrev pub max_file : ℕ
max_file = 65536

-- ---- lines

-- `source station time handovers headroom worst reach`
abbrev pub header : List ℕ
header =
    115 ∷ 111 ∷ 117 ∷ 114 ∷ 99 ∷ 101 ∷ 32 ∷ 115 ∷ 116 ∷ 97 ∷ 116 ∷ 105 ∷ 111 ∷ 110 ∷ 32 ∷ 116 ∷ 105 ∷ 109 ∷ 101 ∷ 32 ∷ 104 ∷ 97 ∷ 110 ∷ 100 ∷ 111 ∷ 118
    ∷ 101 ∷ 114 ∷ 115 ∷ 32 ∷ 104 ∷ 101 ∷ 97 ∷ 100 ∷ 114 ∷ 111 ∷ 111 ∷ 109 ∷ 32 ∷ 119 ∷ 111 ∷ 114 ∷ 115 ∷ 116 ∷ 32 ∷ 114 ∷ 101 ∷ 97 ∷ 99 ∷ 104 ∷ 10
    ∷ []

unfoldable pub spaced : List ℕ → List ℕ
spaced [] = 10 ∷ []
spaced (v ∷ vs) = digits v ++ fields_of vs ++ (10 ∷ [])

-- `refused`
unfoldable pub refused_line : ℕ → ℕ → List ℕ
refused_line k i = (114 ∷ 101 ∷ 102 ∷ 117 ∷ 115 ∷ 101 ∷ 100 ∷ []) ++ fields_of (k ∷ i ∷ []) ++ (10 ∷ [])

-- ---- values

pub record Graph : Type 0 where
  pub n : ℕ
  pub edges : List Edge

abbrev pub graph : ℕ → List Edge → Graph
graph n es = record { n = n; edges = es }

abbrev pub landmarks_of : Graph → List ℕ
landmarks_of d = choice d.n d.edges max_landmarks

abbrev pub held_of : Graph → Network
held_of d = holding d.edges (landmarks_of d) d.n

abbrev pub network_of : Graph → Network
network_of d = opened_network d.n (landmarks_of d) (held_of d)

abbrev pub query_of : Graph → Network → ℕ → ℕ → Outcome Tally Words
query_of d w s p = queried d.n (landmarks_of d) w p s []

abbrev pub value_at : Graph → Network → ℕ → ℕ → ℕ → ℕ
value_at d w s t p = word (property p) (query_of d w s p).memory.settled t

unfoldable pub line_of : Graph → Network → ℕ → ℕ → List ℕ
line_of d w s t = spaced (suc s ∷ suc t ∷ map (value_at d w s t) (range 1 properties))

unfoldable pub lines_of : Graph → Network → ℕ → List ℕ → List ℕ
lines_of d w s [] = []
lines_of d w s (t ∷ ts) = line_of d w s t ++ lines_of d w s ts

unfoldable pub source_lines : Graph → Network → List ℕ → List ℕ
source_lines d w [] = []
source_lines d w (s ∷ ss) = lines_of d w s (range 0 d.n) ++ source_lines d w ss

unfoldable pub listed : Graph → List ℕ → List ℕ
listed d ss = let w = network_of d in header ++ source_lines d w ss

-- ---- the program

abbrev pub graph_verdict : List ℕ → Verdict
graph_verdict gr = refuse_if (ltb max_file (length gr)) 2 0 ▷ judged (read_network gr)

abbrev pub sources_verdict : ℕ → List ℕ → Verdict
sources_verdict n ss = refuse_if (ltb max_file (length ss)) 2 0 ▷ judged (read_sources n ss)

abbrev pub files_verdict : List ℕ → List ℕ → Verdict
files_verdict gr ss = graph_verdict gr ▷ sources_verdict (vertex_count (read_network gr)) ss

unfoldable pub output : Verdict → List ℕ → List ℕ
output accept text = text
output (refuse k i) text = refused_line k i

abbrev pub graph_of : Read State → Graph
graph_of r = graph (vertex_count r) (edges_read r)

unfoldable pub printed : List ℕ → List ℕ → List ℕ
printed gr ss =
    let r = read_network gr in
    output (files_verdict gr ss) (listed (graph_of r) (sources_read (read_sources (vertex_count r) ss)))
