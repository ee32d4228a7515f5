-- `writer::put::width` meets its contract: a number from ten on has one digit more than its tenth. Assumes nothing.
use Rattle.property.proofs.Basics.{arith, refl, ◌≤◌, ◌<◌}
use Rattle.dimacs.proofs.Widths.{width_small, width_big}
use Rattle.writer.proofs.put.width.Goals as goal

pub loop-w-init : goal.loop-w-init
loop-w-init c =
    (refl, omega arith)

pub loop-w-preserved : goal.loop-w-preserved
loop-w-preserved c =
    let b : 10 ≤ c.loop-w.w = omega arith in (omega (arith, width_big c.loop-w.w b), omega arith)

pub returns : goal.returns
returns c =
    let b : c.loop-w.w < 10 = omega arith in omega (arith, width_small c.loop-w.w b)
