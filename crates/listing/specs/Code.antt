-- What the functions that print values ask and answer. Assumes nothing.
--
--   row_words                       == the words of a row list, enough for any network: 5,120
--   max_line                        == the longest line has 77 bytes: seven numbers of at most ten digits, six spaces and a line feed
--   max_first                       == the first line has at most 51 bytes: the header; a refusal has fewer
--   TableLists ts hs ws             == three lists of 2,048 words
--   RowLists f b                    == two lists with room for the rows of any network
--   LinesFit n xs                   == n is at most 256, and xs has room for a line of each of n vertices
--   settled_row n ls w s p          == the settled words of a query for property p from s, with an empty schedule
--   Rows n xs                       == xs has a row of n words for each property, one after the other, and n is at most 256
--   rows_line s t n xs              == the line of source s and vertex t, with the vertex's word of each row of xs
--   rows_lines s n xs ts            == the lines of source s and the vertices ts
--   Loaded n es ts hs ws m          == three lists of 2,048 words hold the table of the edges es, m of them, and zeros past them
--   Ready n es ts hs ws m k vs f b  == the network of n and es is opened: its k landmarks stand in front of vs, its rows in front of f and b
--   GraphRead gr r ts hs ws         == the reply r to reading deck.gr tells its verdict, and where it is read, three lists are loaded with it
--   SourcesRead n ss r xs           == the reply r to reading deck.ss tells its verdict, and where it is read, its sources stand in front of xs
--   parts_of v d ss                 == what is printed under the verdict v, piece by piece: a refusal, or the header and each source's lines
--   parts gr ss                     == the output for two files, piece by piece
--   sources_in p                    == how many sources there are to list: none where a file is refused
--   Within p xs f b                 == the numbers of a Prepared are within the lists that belong to it
--   Bounded p xs f b                == so they are where two files are good; the lists of rows have room in any case
--   Printable p xs f b out          == so they are, and out has room for the lines of a source
--   Running gr ss p ts hs ws xs f b == the lists hold the opened network and the sources of two good files
--   Shown gr ss p ts hs ws xs f b   == where two files are good, the lists hold them; otherwise p is their refusal
use Rattle.std.specs.Prelude.{◌≡◌, List, [], ◌∷◌, ◌++◌, map, ℕ, suc, ◌+◌, ◌*◌, ◌≤◌, length, get_or, take, replicate, Result, Ok, Err}
use Rattle.property.specs.Property.{properties}
use Rattle.graph.specs.declared.refusal.Refusal.{Refusal}
use Rattle.graph.specs.Limits.{max_vertices, max_edges, max_landmarks}
use Rattle.graph.specs.Refusal.{Verdict, accept, refuse}
use Rattle.graph.specs.Edge.{Edge, range}
use Rattle.graph.specs.Code.{number, place, columns}
use Rattle.network.specs.Network.{Network}
use Rattle.network.specs.Caller.{queried}
use Rattle.calls.specs.Code.{network}
use Rattle.dimacs.specs.Network.{read_network}
use Rattle.dimacs.specs.Sources.{read_sources}
use Rattle.dimacs.specs.Call.{filled, vertex_count, edges_read, sources_read}
use Rattle.dimacs.specs.Claims.{Table}
use Rattle.reader.specs.declared.network_text.Size.{Size}
use Rattle.listing.specs.declared.parts.Prepared.{Prepared}
use Rattle.listing.specs.Listing.{Graph, graph, graph_of, header, spaced, refused_line, landmarks_of, network_of, lines_of, graph_verdict, sources_verdict, files_verdict}

-- ---- room

abbrev pub row_words : ℕ
row_words = max_landmarks * properties * max_vertices

abbrev pub max_line : ℕ
max_line = 77

abbrev pub max_first : ℕ
max_first = 51

pub record TableLists (ts hs ws : List ℕ) : Type 0 where
  pub tails : length ts ≡ max_edges
  pub heads : length hs ≡ max_edges
  pub weights : length ws ≡ max_edges

pub record RowLists (f b : List ℕ) : Type 0 where
  pub forward : row_words ≤ length f
  pub backward : row_words ≤ length b

pub record LinesFit (n : ℕ) (xs : List ℕ) : Type 0 where
  pub vertices : n ≤ max_vertices
  pub room : max_line * n ≤ length xs

-- ---- the lines of a source

abbrev pub settled_row : ℕ → List ℕ → Network → ℕ → ℕ → List ℕ
settled_row n ls w s p = (queried n ls w p s []).memory.settled

pub record Rows (n : ℕ) (xs : List ℕ) : Type 0 where
  pub vertices : n ≤ max_vertices
  pub room : properties * n ≤ length xs

abbrev pub rows_line : ℕ → ℕ → ℕ → List ℕ → List ℕ
rows_line s t n xs = spaced (suc s ∷ suc t ∷ map (λ p. get_or xs (p * n + t) 0) (range 0 properties))

unfoldable pub rows_lines : ℕ → ℕ → List ℕ → List ℕ → List ℕ
rows_lines s n xs [] = []
rows_lines s n xs (t ∷ ts) = rows_line s t n xs ++ rows_lines s n xs ts

-- ---- the network

pub record Loaded (n : ℕ) (es : List Edge) (ts hs ws : List ℕ) (m : ℕ) : Type 0 where
  pub good : Table n es
  pub count : m ≡ length es
  pub table : columns ts hs ws ≡ filled es (columns (replicate max_edges 0) (replicate max_edges 0) (replicate max_edges 0))

pub record Ready (n : ℕ) (es : List Edge) (ts hs ws : List ℕ) (m k : ℕ) (vs f b : List ℕ) : Type 0 where
  pub landmarks : landmarks_of (graph n es) ≡ take k vs
  pub opened : network ts hs ws (take (k * properties * n) f) (take (k * properties * n) b) m ≡ network_of (graph n es)

-- ---- files

abbrev pub GraphRead : List ℕ → Result Size Refusal → List ℕ → List ℕ → List ℕ → Type 0
GraphRead gr (Ok z) ts hs ws = (graph_verdict gr ≡ accept) × (z.n ≡ vertex_count (read_network gr)) × Loaded z.n (edges_read (read_network gr)) ts hs ws z.count
GraphRead gr (Err e) ts hs ws = graph_verdict gr ≡ refuse (number e) (place e)

abbrev pub SourcesRead : ℕ → List ℕ → Result ℕ Refusal → List ℕ → Type 0
SourcesRead n ss (Ok k) xs = (sources_verdict n ss ≡ accept) × (take k xs ≡ sources_read (read_sources n ss)) × (k ≤ length xs)
SourcesRead n ss (Err e) xs = sources_verdict n ss ≡ refuse (number e) (place e)

-- ---- the output, piece by piece

unfoldable pub parts_of : Verdict → Graph → List ℕ → List (List ℕ)
parts_of accept d ss = header ∷ map (λ s. lines_of d (network_of d) s (range 0 d.n)) ss
parts_of (refuse k i) d ss = refused_line k i ∷ []

abbrev pub parts : List ℕ → List ℕ → List (List ℕ)
parts gr ss = let r = read_network gr in parts_of (files_verdict gr ss) (graph_of r) (sources_read (read_sources (vertex_count r) ss))

abbrev pub sources_in : Result Prepared Refusal → ℕ
sources_in (Ok p) = p.sources
sources_in (Err e) = 0

pub record Within (p : Prepared) (xs f b : List ℕ) : Type 0 where
  pub vertices : p.n ≤ max_vertices
  pub landmarks : p.choice.count ≤ max_landmarks
  pub places : length p.choice.vertices ≡ max_landmarks
  pub sources : p.sources ≤ length xs
  pub rows : RowLists f b

abbrev pub Bounded : Result Prepared Refusal → List ℕ → List ℕ → List ℕ → Type 0
Bounded (Ok p) xs f b = Within p xs f b
Bounded (Err e) xs f b = RowLists f b

pub record Printable (p : Result Prepared Refusal) (xs f b out : List ℕ) : Type 0 where
  pub bounded : Bounded p xs f b
  pub room : max_line * max_vertices ≤ length out

pub record Running (gr ss : List ℕ) (p : Prepared) (ts hs ws xs f b : List ℕ) : Type 0 where
  pub vertices : p.n ≡ vertex_count (read_network gr)
  pub ready : Ready p.n (edges_read (read_network gr)) ts hs ws p.count p.choice.count p.choice.vertices f b
  pub sources : take p.sources xs ≡ sources_read (read_sources (vertex_count (read_network gr)) ss)

abbrev pub Shown : List ℕ → List ℕ → Result Prepared Refusal → List ℕ → List ℕ → List ℕ → List ℕ → List ℕ → List ℕ → Type 0
Shown gr ss (Ok p) ts hs ws xs f b = (files_verdict gr ss ≡ accept) × Running gr ss p ts hs ws xs f b
Shown gr ss (Err e) ts hs ws xs f b = files_verdict gr ss ≡ refuse (number e) (place e)
