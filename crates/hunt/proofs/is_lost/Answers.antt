-- `hunt::is_lost` meets its contract. Assumes nothing.
use Rattle.hunt.proofs.is_lost.Goals as goal

pub returns : goal.returns
returns c =
    rw c.worse.ensures
