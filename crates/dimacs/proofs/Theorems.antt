-- The claims of specs/Claims.antt, one theorem each. Assumes nothing.
use Rattle.property.proofs.Basics.{◌≡◌, refl, ap, List, [], ℕ, ◌≤◌, ◌<◌, arith, length, ne_eqb, le-ltb}
use Rattle.graph.specs.Limits.{max_vertices}
use Rattle.graph.specs.Refusal.{accept}
use Rattle.graph.specs.Edge.{exists, same}
use Rattle.graph.specs.Table.{edges_of, is_edge, table_order, size}
use Rattle.graph.proofs.Verdicts.{accept_if}
use Rattle.graph.proofs.Tests.{or_false}
use Rattle.graph.proofs.Gather.{exists_into, length_sorted, fresh_none, into_sorted}
use Rattle.graph.proofs.Order.{table_ordered, accept_rules}
use Rattle.dimacs.proofs.Reading.{refused}
use Rattle.dimacs.proofs.Places.{place_agrees, place_one}
use Rattle.dimacs.proofs.Network as network
use Rattle.dimacs.proofs.Sources as sources
use Rattle.dimacs.proofs.Written.{written_canonical, canonical_written, write_verdict, filled_edges, read_call_lem}
use Rattle.dimacs.specs.Lines.{Place}
use Rattle.dimacs.specs.Read.{Read, good, bad}
use Rattle.dimacs.specs.Network as net
use Rattle.dimacs.specs.Sources as src
use Rattle.dimacs.specs.Claims.{NetworkReads, NetworkWhole, NetworkTables, NetworkPlaces, NetworkReadsBack, NetworkWrites, NetworkRewrites, NetworkCanonical, CallsReadBack, SourcesRead, SourcesWhole, SourcesPlaces}

-- ---- network text

-- The items of a good text lead to a complete state: the p line is taken, for where there is an edge its two ends are two vertices,
-- and each `a` line is taken, for its edge is new. Items that lead to a complete state are a p line and as many new edges as it
-- says: a good text's. A network's state tells its n and edges, so that no other network fits.
pub network_reads : NetworkReads
network_reads text n es = (forth, network.good_read text n es)
  where
    forth : net.read_network text ≡ good (net.within n (length es) es) → net.Good text n es
    forth h =
        let (v, fs, p, g) = network.read_good text (net.within n (length es) es) h in
        let a : v ≡ n = cc in
        let b : fs ≡ es = cc in
        rw (a, b) at g

pub network_whole : NetworkWhole
network_whole text s h = let (n, es, p, g) = network.read_good text s h in (n, es, p)

accept_size : (n : ℕ) → 0 < n → n ≤ max_vertices → size n ≡ accept
accept_size n p q = accept_if 1 0 (or_false (ne_eqb n 0 (λ z. omega arith)) (le-ltb max_vertices n q))

pub network_tables : NetworkTables
unfolding exists
network_tables text n es g =
    let fs = g.arcs in (
      rw g.table record {
        vertices = accept_size n g.some_vertex g.vertices;
        few = omega (arith, g.few, length_sorted table_order fs);
        rules = accept_rules n (net.sorted fs) (into_sorted table_ordered (is_edge n) [] fs tt g.edges (fresh_none table_order fs) g.distinct);
      },
      λ e. rw g.table (exists_into table_order (same e) [] fs),
    )

-- a text that has a place is not good, so that it is refused; and it has no second place
place_only : {S : Type 0} (Good : List ℕ → Type 0) (text : List ℕ) (k : ℕ) (r : Read S) → ((s : S) → r ≡ good s → Good text) → ((j : ℕ) → r ≡ bad j → Place Good text j) → Place Good text k → r ≡ bad k
place_only Good text k (good s) f g p = absurd (p.not_good (f s refl))
place_only Good text k (bad j) f g p = ap bad (place_one Good text j k (g j refl) p)

-- Where the reader refuses is the place (Reading, `refused`), for no state is a dead end: before the p line `p sp 1 0` completes
-- the text; after it, while an edge is to come, n is above 1 and fewer than 2,048 edges are there, so that one from 0 to 1 is unused.
network_placed : (text : List ℕ) (k : ℕ) → net.read_network text ≡ bad k → Place net.IsGood text k
unfolding net.read_network
network_placed text k h =
    place_agrees (λ t z. network.read_is_good t z.0 z.1) (λ t z. (net.within z.0 (length z.1) z.1, network.good_read t z.0 z.1 z.2))
    text k (refused network.network_spelling net.act net.complete net.start network.network_goes_on text k h)

pub network_places : NetworkPlaces
network_places text k = (network_placed text k, place_only net.IsGood text k (net.read_network text) (network.read_is_good text) (network_placed text))

-- ---- written text

pub network_writes : NetworkWrites
network_writes = written_canonical

pub network_reads_back : NetworkReadsBack
network_reads_back n es t = network.good_read (net.written n es) n es (written_canonical n es t).good

pub network_rewrites : NetworkRewrites
network_rewrites text n es g = written_canonical n es (network_tables text n es g).0

pub network_canonical : NetworkCanonical
network_canonical = canonical_written

-- The buffer begins with the text of a table that keeps the rules, and the call's reply is its length; that text is read as that
-- table, whose records then stand in front of the lists.
pub calls_read_back : CallsReadBack
calls_read_back n cs m out k ds h s =
    let (t, l, w, e, _, _, _) = write_verdict n cs m out k h in (
      rw e (read_call_lem (net.written n (edges_of cs m)) n (edges_of cs m) m ds (network_reads_back n (edges_of cs m) t) l s),
      filled_edges (edges_of cs m) m ds l,
    )

-- ---- source files

pub sources_read_lem : SourcesRead
sources_read_lem n text ss = (forth, sources.good_read n text ss)
  where
    forth : src.read_sources n text ≡ good (src.within (length ss) ss) → src.Good n text ss
    forth h =
        let (vs, p, g) = sources.read_good n text (src.within (length ss) ss) h in
        let b : vs ≡ ss = cc in
        rw b at g

pub sources_whole : SourcesWhole
sources_whole n text s h = let (ss, p, g) = sources.read_good n text s h in (ss, p)

-- after the p line, lines `s 1` complete the file
sources_placed : (n : ℕ) → 0 < n → (text : List ℕ) (k : ℕ) → src.read_sources n text ≡ bad k → Place (src.IsGood n) text k
unfolding src.read_sources
sources_placed n pos text k h =
    place_agrees (λ t z. sources.read_is_good n t z.0 z.1) (λ t z. (src.within (length z.0) z.0, sources.good_read n t z.0 z.1))
    text k (refused sources.sources_spelling (src.act n) src.complete src.start (sources.sources_go_on n pos) text k h)

pub sources_places : SourcesPlaces
sources_places n pos text k = (sources_placed n pos text k, place_only (src.IsGood n) text k (src.read_sources n text) (sources.read_is_good n text) (sources_placed n pos text))
