-- `listing::prepare::read_graph` meets its contract: a file that is not too long is read into lists of zeros. Assumes nothing.
use Rattle.property.proofs.Basics.{arith, ap, ◌∙◌}
use Rattle.graph.specs.Table.{Columns}
use Rattle.dimacs.specs.Call.{read_call}
use Rattle.listing.proofs.Reading.{zero_columns, graph_long, graph_read}
use Rattle.listing.proofs.prepare.read_graph.Goals as goal

pub returns-then-gr-gt-MAX_FILE : goal.returns-then-gr-gt-MAX_FILE
returns-then-gr-gt-MAX_FILE c =
    graph_long c.args.gr.now (omega arith)

pub returns : goal.returns
returns c =
    graph_read c.args.gr.now _ _ _ (omega arith) _
    (c.read_network.ensures ∙ ap (λ (cs : Columns). read_call c.args.gr.now cs) (zero_columns c.args.tails.now c.args.heads.now c.args.weights.now c.fill.ensures c.fill-2.ensures c.fill-3.ensures c.requires.tails c.requires.heads c.requires.weights))
