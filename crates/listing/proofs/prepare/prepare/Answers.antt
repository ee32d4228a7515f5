-- `listing::prepare::prepare` meets its contract: deck.gr, deck.ss, and the opening. Assumes nothing.
use Rattle.property.proofs.Basics.{arith, ap, ◌∙◌, ℕ}
use Rattle.graph.proofs.Judging.{size_accept, passed_on}
use Rattle.dimacs.specs.Network.{read_network}
use Rattle.dimacs.specs.Sources.{read_sources}
use Rattle.dimacs.specs.Call.{edges_read, sources_read}
use Rattle.listing.proofs.Reading.{files_first, files_second}
use Rattle.listing.proofs.prepare.prepare.Goals as goal

pub returns-in_err-size : goal.returns-in_err-size
returns-in_err-size c =
    rw (passed_on _ c.from_residual.ensures.1) (record { bounded = c.requires.list_len.1; shown = files_first _ _ _ _ c.in_err-size.ensures })

pub read_list-requires : goal.read_list-requires
read_list-requires c =
    (c.in_ok-size.ensures.2.good.vertices, omega (arith, c.requires.list_len.0))

pub returns-in_err-sources : goal.returns-in_err-sources
returns-in_err-sources c =
    let z = c.in_ok-size.ensures in
    rw (passed_on _ c.from_residual-in_err-sources.ensures.1) (record { bounded = c.requires.list_len.1; shown = files_second _ _ _ _ z.0 z.1 c.in_err-sources.ensures })

pub open_network-choice-requires : goal.open_network-choice-requires
open_network-choice-requires c =
    ((size_accept _ c.in_ok-size.ensures.2.good.vertices).1, c.requires.list_len.1)

pub returns : goal.returns
returns c =
    let a = c.args in
    let z = c.in_ok-size.ensures in
    let t = c.in_ok-sources.ensures in
    let e = c.open_network-choice.ensures in record {
      bounded = record {
        vertices = (size_accept _ z.2.good.vertices).1;
        landmarks = e.count_le_max_landmarks.0;
        places = e.count_le_max_landmarks.1;
        sources = t.2;
        rows = record {
          forward = omega (arith, c.open_network-choice.auto.forward, c.requires.list_len.1.forward);
          backward = omega (arith, c.open_network-choice.auto.backward, c.requires.list_len.1.backward);
        };
      };
      shown = (
        files_second a.gr.now a.ss.now _ _ z.0 z.1 t.0,
        record {
          vertices = z.1;
          ready = e.ready (edges_read (read_network a.gr.now)) z.2;
          sources = t.1 ∙ ap (λ (n : ℕ). sources_read (read_sources n a.ss.now)) z.1;
        },
      );
    }
