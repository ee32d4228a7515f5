-- `prepare::is_edge_lost` meets its contract. Assumes nothing.
use Rattle.property.proofs.Basics.{lt-ltb, le-ltb}
use Rattle.prepare.proofs.is_edge_lost.Goals as goal

pub returns-then-w-gt0 : goal.returns-then-w-gt0
returns-then-w-gt0 c =
    rw (lt-ltb _ _ c.if-w-gt0.true) c.is_lost.ensures

pub returns-else-w-gt0 : goal.returns-else-w-gt0
returns-else-w-gt0 c =
    rw (le-ltb _ _ c.if-w-gt0.false)
