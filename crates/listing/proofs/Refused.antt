-- The claim of specs/Refused.antt. Assumes nothing.
use Rattle.property.proofs.Basics.{◌≡◌, sym, ap, ◌∙◌, List, ℕ, length, le-ltb}
use Rattle.graph.specs.Refusal.{Verdict, refuse}
use Rattle.graph.proofs.Verdicts.{accept_then, accept_if}
use Rattle.dimacs.specs.Network as net
use Rattle.dimacs.specs.Sources as src
use Rattle.dimacs.specs.Call.{judged, vertex_count, sources_read}
use Rattle.dimacs.proofs.Theorems.{network_reads, network_places, sources_places}
use Rattle.listing.specs.Listing.{max_file, refused_line, files_verdict, graph_of, listed, output, printed}
use Rattle.listing.specs.Refused.{PrintedRefused}
use Rattle.listing.proofs.Reading.{graph_long, graph_verdict_lem, sources_long, files_first, files_second}

verdict_printed : (gr ss : List ℕ) (k i : ℕ) → files_verdict gr ss ≡ refuse k i → printed gr ss ≡ refused_line k i
unfolding printed output
verdict_printed gr ss k i h =
    ap (λ (v : Verdict). output v (listed (graph_of (net.read_network gr)) (sources_read (src.read_sources (vertex_count (net.read_network gr)) ss)))) h

-- deck.gr is judged first: too long, it is number 2; else its reader's verdict is given, 14 at the place. Where it is good, deck.ss is judged in
-- the same way, for the n of deck.gr, which is at least 1.
pub printed_refused : PrintedRefused
unfolding judged vertex_count
printed_refused gr ss = (
  λ l. verdict_printed gr ss 2 0 (files_first gr ss 2 0 (graph_long gr l)),
  λ k l p. verdict_printed gr ss 14 k (files_first gr ss 14 k (graph_verdict_lem gr l ∙ ap judged ((network_places gr k).1 p))),
  λ n es l g.
      let r = (network_reads gr n es).1 g in
      let v = graph_verdict_lem gr l ∙ ap judged r in
      let c = ap vertex_count r in
      record {
        long = λ m. verdict_printed gr ss 2 0 (files_second gr ss n (refuse 2 0) v (sym c) (sources_long n ss m));
        bad = λ k m p. verdict_printed gr ss 14 k (files_second gr ss n (refuse 14 k) v (sym c)
            (accept_then (accept_if 2 0 (le-ltb max_file (length ss) m)) ∙ ap judged ((sources_places n g.some_vertex ss k).1 p)));
      },
)
