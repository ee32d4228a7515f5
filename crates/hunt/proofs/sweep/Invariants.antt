-- `hunt::sweep` meets its contract. The loop's invariant is `Sweeping`: the vertices of the numbers below `i` are done. Assumes nothing.
use Rattle.property.proofs.Basics.{◌-◌}
use Rattle.property.specs.Property.{property}
use Rattle.hunt.proofs.Sweeping.{Sweeping}
use Rattle.hunt.proofs.sweep.Given as goal

abbrev pub invariant-loop-i : goal.invariant-loop-i
invariant-loop-i l =
    Sweeping (property l.p) l.n l.s l.words l.old l.other l.i l.initial.marks l.initial.todo l.marks l.todo

abbrev pub decreases-loop-i : goal.decreases-loop-i
decreases-loop-i l =
    l.n - l.i
