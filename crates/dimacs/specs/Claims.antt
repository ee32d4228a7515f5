-- What holds of network text and source files, for every list of bytes: document 01, "Text" and number 14. Assumes nothing.
--
--   Table n es          == es is an edge table of n vertices: neither number 1 nor number 4 applies
--   Uncommented xs      == no line of xs is a comment
--   Ascending es        == each edge precedes the next one in table order
--   Canonical text n es == text is a good text of n and es, has no comment, and its edges ascend
--
-- and the claims, each with its theorem in proofs/Theorems.antt:
--
--   NetworkReads     == the reader accepts exactly the good texts, and gives n and the edges                    network_reads
--   NetworkWhole     == it accepts with nothing else                                                            network_whole
--   NetworkTables    == what it gives is an edge table, with the edges of the text and no others                network_tables
--   NetworkPlaces    == it refuses exactly at the place of number 14                                            network_places
--   NetworkReadsBack == what is written for an edge table is read as that table                                 network_reads_back
--   NetworkWrites    == what is written is good, has no comment and ascends                                     network_writes
--   NetworkRewrites  == so is what is written for the network of a good text                                    network_rewrites
--   NetworkCanonical == and it is the only such text of its network, byte for byte                              network_canonical
--   CallsReadBack    == what the writing call wrote, the reading call accepts as the same n, count and records  calls_read_back
--   SourcesRead      == the reader of source files accepts exactly the good ones, and gives their sources       sources_read_lem
--   SourcesWhole     == it accepts with nothing else                                                            sources_whole
--   SourcesPlaces    == it refuses exactly at the place of number 14, where there is a vertex                   sources_places
use Rattle.std.specs.Prelude.{◌≡◌, ◌↔◌, true, List, [], ◌∷◌, ℕ, ◌≤◌, ◌<◌, length, take}
use Rattle.graph.specs.Limits.{max_edges}
use Rattle.graph.specs.Refusal.{accept, accepted}
use Rattle.graph.specs.Edge.{Edge, precedes, among}
use Rattle.graph.specs.Table.{Columns, edges_of, rules, size, short_table}
use Rattle.dimacs.specs.Lines.{Line, bare, comment, says, Place}
use Rattle.dimacs.specs.Read.{good, bad}
use Rattle.dimacs.specs.Network as net
use Rattle.dimacs.specs.Sources as src
use Rattle.dimacs.specs.Call.{filled, read_call, write_call}

-- ---- network text

abbrev pub NetworkReads : Type 0
NetworkReads = (text : List ℕ) (n : ℕ) (es : List Edge) → (net.read_network text ≡ good (net.within n (length es) es)) ↔ net.Good text n es

abbrev pub NetworkWhole : Type 0
NetworkWhole = (text : List ℕ) (s : net.State) → net.read_network text ≡ good s → (n : ℕ) × (es : List Edge) × (s ≡ net.within n (length es) es)

pub record Table (n : ℕ) (es : List Edge) : Type 0 where
  pub vertices : size n ≡ accept
  pub few : length es ≤ max_edges
  pub rules : rules n es ≡ accept

abbrev pub NetworkTables : Type 0
NetworkTables = (text : List ℕ) (n : ℕ) (es : List Edge) (g : net.Good text n es) → Table n es × ((e : Edge) → among es e ≡ among g.arcs e)

abbrev pub NetworkPlaces : Type 0
NetworkPlaces = (text : List ℕ) (k : ℕ) → (net.read_network text ≡ bad k) ↔ Place net.IsGood text k

-- ---- written text

abbrev pub NetworkReadsBack : Type 0
NetworkReadsBack = (n : ℕ) (es : List Edge) → Table n es → net.read_network (net.written n es) ≡ good (net.within n (length es) es)

abbrev pub Uncommented : {A : Type 0} → List (Line A) → Type 0
Uncommented [] = Unit {0}
Uncommented (bare ∷ xs) = ⊥
Uncommented (comment s ∷ xs) = ⊥
Uncommented (says a ∷ xs) = Uncommented xs

abbrev pub Ascending : List Edge → Type 0
Ascending [] = Unit {0}
Ascending (e ∷ []) = Unit {0}
Ascending (e ∷ f ∷ es) = (precedes e f ≡ true) × Ascending (f ∷ es)

pub record Canonical (text : List ℕ) (n : ℕ) (es : List Edge) : Type 0 where
  pub good : net.Good text n es
  pub no_comment : Uncommented good.spelled.lines
  pub ascends : Ascending good.arcs

abbrev pub NetworkWrites : Type 0
NetworkWrites = (n : ℕ) (es : List Edge) → Table n es → Canonical (net.written n es) n es

abbrev pub NetworkRewrites : Type 0
NetworkRewrites = (text : List ℕ) (n : ℕ) (es : List Edge) → net.Good text n es → Canonical (net.written n es) n es

abbrev pub NetworkCanonical : Type 0
NetworkCanonical = (text : List ℕ) (n : ℕ) (es : List Edge) → Canonical text n es → text ≡ net.written n es

-- the bytes that an accepted call wrote are the first k of its buffer; ds are lists that are long enough, whatever they hold
abbrev pub CallsReadBack : Type 0
CallsReadBack =
    (n : ℕ) (cs : Columns) (m : ℕ) (out : List ℕ) (k : ℕ) (ds : Columns) → (write_call n cs m out).reply ≡ accepted k → short_table ds ≡ accept
    → (read_call (take k (write_call n cs m out).memory) ds ≡ record { reply = accepted (record { vertices = n; count = m }); memory = filled (edges_of cs m) ds })
    × (edges_of (filled (edges_of cs m) ds) m ≡ edges_of cs m)

-- ---- source files

abbrev pub SourcesRead : Type 0
SourcesRead = (n : ℕ) (text ss : List ℕ) → (src.read_sources n text ≡ good (src.within (length ss) ss)) ↔ src.Good n text ss

abbrev pub SourcesWhole : Type 0
SourcesWhole = (n : ℕ) (text : List ℕ) (s : src.State) → src.read_sources n text ≡ good s → (ss : List ℕ) × (s ≡ src.within (length ss) ss)

-- without a vertex only `p aux sp ss 0` can go on; the call gives number 1 then
abbrev pub SourcesPlaces : Type 0
SourcesPlaces = (n : ℕ) → 0 < n → (text : List ℕ) (k : ℕ) → (src.read_sources n text ≡ bad k) ↔ Place (src.IsGood n) text k
