-- `prepare::reopen_marked` meets its contract. The loop's invariant is `Reopening`. Assumes nothing.
use Rattle.property.proofs.Basics.{◌-◌}
use Rattle.property.specs.Property.{property}
use Rattle.prepare.proofs.Starts.{Reopening}
use Rattle.prepare.proofs.reopen_marked.Given as goal

abbrev pub invariant-loop-i : goal.invariant-loop-i
invariant-loop-i l =
    Reopening (property l.p) l.n l.into l.marks l.initial.words l.initial.waiting l.words l.waiting l.i

abbrev pub decreases-loop-i : goal.decreases-loop-i
decreases-loop-i l =
    l.n - l.i
