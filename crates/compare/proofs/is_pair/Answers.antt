-- `compare::is_pair` meets its contract. Assumes nothing.
use Rattle.compare.proofs.is_pair.Goals as goal

pub returns : goal.returns
returns c =
    rw (c.head.ensures, c.head-2.ensures, c.head-3.ensures, c.head-4.ensures)
