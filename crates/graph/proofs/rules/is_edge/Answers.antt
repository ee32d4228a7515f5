-- `graph::rules::is_edge` meets its contract. Assumes nothing.
use Rattle.graph.proofs.rules.is_edge.Goals as goal

pub returns : goal.returns
returns c =
    rw c.is_weight.ensures
