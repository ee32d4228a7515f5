-- `hunt::touch_all` meets its contract. The loop's invariant: the edges from place j on were taken (`Touched`). Assumes nothing.
use Rattle.property.proofs.Basics.{◌-◌, ◌≤◌, length}
use Rattle.property.specs.Property.{property}
use Rattle.hunt.specs.Code.{Touched}
use Rattle.hunt.proofs.touch_all.Given as goal

abbrev pub invariant-loop-j : goal.invariant-loop-j
invariant-loop-j l =
    Touched (property l.p) (length l.words) l.s l.words l.old l.other l.u l.on l.j (l.hi - l.j) l.initial.marks l.initial.todo l.marks l.todo × (l.lo ≤ l.j) × (l.j ≤ l.hi)
