-- `hunt::is_held` meets its contract. Assumes nothing.
use Rattle.hunt.proofs.is_held.Goals as goal

pub returns : goal.returns
returns c =
    rw (c.along.ensures, c.none.ensures)
