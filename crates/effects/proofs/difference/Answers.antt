-- `effects::difference` meets its contract, by the laws of `Differences.antt`. Assumes nothing.
use Rattle.effects.proofs.Differences.{fits, is}
use Rattle.effects.proofs.difference.Goals as goal

pub overflow_sub-result : goal.overflow_sub-result
overflow_sub-result c =
    fits c.args.after c.args.before c.ranges.after.fits c.ranges.before.fits

pub returns : goal.returns
returns c =
    is c.args.after c.args.before c.ranges.after.fits c.ranges.before.fits
