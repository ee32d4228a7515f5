-- `digest::improves` meets its contract. Assumes nothing.
use Rattle.property.proofs.Basics.{true, false}
use Rattle.digest.proofs.Choosing.{chosen, zero_fits, less}
use Rattle.digest.proofs.improves.Goals as goal

pub returns-then-better : goal.returns-then-better
returns-then-better c =
    chosen true _ _ c.better.ensures c.if-better.true (less zero_fits c.ranges.d)

pub returns-else-better : goal.returns-else-better
returns-else-better c =
    chosen false _ _ c.better.ensures c.if-better.false (less c.ranges.d zero_fits)
