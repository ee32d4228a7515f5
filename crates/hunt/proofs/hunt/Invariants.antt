-- `hunt::hunt` meets its contract. The loop's invariant is `Hunted`; what falls is the number of vertices without a mark, while any is to do. Assumes nothing.
use Rattle.property.proofs.Basics.{cond, suc, ◌-◌}
use Rattle.property.specs.Property.{property}
use Rattle.frontier.specs.Waiting.{waiting_of, capacity, any_of, count_of}
use Rattle.hunt.proofs.Sweeping.{Hunted}
use Rattle.hunt.proofs.hunt.Given as goal

abbrev pub invariant-loop-marks : goal.invariant-loop-marks
invariant-loop-marks l =
    Hunted (property l.p) l.n l.s l.words l.old l.other l.initial.marks l.initial.todo l.marks l.todo

abbrev pub decreases-loop-marks : goal.decreases-loop-marks
decreases-loop-marks l =
    cond (any_of (waiting_of l.todo)) (suc (capacity - count_of (waiting_of l.marks))) 0
