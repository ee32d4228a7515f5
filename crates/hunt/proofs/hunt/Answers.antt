-- `hunt::hunt` meets its contract. The loop's invariant is `Hunted`; what falls is the number of vertices without a mark, while any is to do. Assumes nothing.
use Rattle.property.proofs.Basics.{sym, ◌∙◌}
use Rattle.hunt.proofs.Sweeping.{hunted_turn, hunted_less, hunted_done}
use Rattle.hunt.proofs.hunt.Goals as goal

pub loop-marks-init : goal.loop-marks-init
loop-marks-init c =
    record { hunting = c.requires; kept = λ es fs o f g h. (g, h) }

pub sweep-requires : goal.sweep-requires
sweep-requires c =
    c.loop-marks.invariant.hunting

pub loop-marks-smaller : goal.loop-marks-smaller
loop-marks-smaller c =
    hunted_less c.loop-marks.invariant c.sweep.ensures (sym c.any.ensures ∙ c.loop-marks-test.true)

pub loop-marks-preserved : goal.loop-marks-preserved
loop-marks-preserved c =
    hunted_turn c.loop-marks.invariant c.sweep.ensures

pub returns : goal.returns
returns c =
    let v = c.loop-marks.invariant in record { marks = v.hunting.marks; marks_after = hunted_done v (sym c.any.ensures ∙ c.loop-marks-test.false) }
