-- `graph::rules::follows` meets its contract. Assumes nothing.
use Rattle.graph.proofs.rules.follows.Goals as goal

pub returns : goal.returns
returns c =
    rw (c.in_order.ensures, c.is_edge.ensures)
