-- `search::is_eligible` meets its contract. Assumes nothing.
use Rattle.search.proofs.Steps.{eligible_low, eligible_high}
use Rattle.search.proofs.is_eligible.Goals as goal

pub returns-then-p-le2 : goal.returns-then-p-le2
returns-then-p-le2 c =
    eligible_low _ _ _ _ _ _ c.if-p-le2.true c.along.ensures

pub returns-else-p-le2 : goal.returns-else-p-le2
returns-else-p-le2 c =
    eligible_high _ _ _ _ _ _ _ _ c.if-p-le2.false c.start.ensures c.along-else-p-le2.ensures c.better.ensures
