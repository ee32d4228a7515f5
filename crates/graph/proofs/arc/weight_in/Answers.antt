-- `graph::arc::weight_in` meets its contract. Assumes nothing.
use Rattle.graph.proofs.arc.weight_in.Goals as goal

pub returns-then-packed : goal.returns-then-packed
returns-then-packed c =
    rw c.if-packed.true c.weight.ensures

pub returns-else-packed : goal.returns-else-packed
returns-else-packed c =
    rw c.if-packed.false
