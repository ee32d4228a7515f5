-- `settled_check::is_relaxable` meets its contract. Assumes nothing.
use Rattle.settled_check.proofs.Checking.{relaxable_told}
use Rattle.settled_check.proofs.is_relaxable.Goals as goal

pub returns : goal.returns
returns c =
    relaxable_told c.args.n c.args.r c.args.t c.args.h c.args.w c.args.words.now _ _ c.row_property-p.ensures c.requires.0 c.requires.1 c.requires.2 c.along-v.ensures c.better.ensures
