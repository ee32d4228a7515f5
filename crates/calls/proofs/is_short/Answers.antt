-- `calls::is_short` meets its contract. Assumes nothing.
use Rattle.property.proofs.Basics.{arith, ◌<◌}
use Rattle.calls.proofs.Judging.{short_none, short_some}
use Rattle.calls.proofs.is_short.Goals as goal

pub returns-then-n-eq0 : goal.returns-then-n-eq0
returns-then-n-eq0 c =
    short_none _ _ _ c.if-n-eq0.true

pub returns : goal.returns
returns c =
    let l : 0 < c.args.n = omega arith in short_some _ _ _ l
