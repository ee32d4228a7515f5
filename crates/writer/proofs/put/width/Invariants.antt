-- `writer::put::width` meets its contract: a number from ten on has one digit more than its tenth. Assumes nothing.
use Rattle.property.proofs.Basics.{◌≡◌, ◌+◌, ◌≤◌, length}
use Rattle.dimacs.specs.Decimal.{digits}
use Rattle.writer.proofs.put.width.Given as goal

abbrev pub invariant-loop-w : goal.invariant-loop-w
invariant-loop-w l =
    (l.n + length (digits l.w) ≡ 1 + length (digits l.v)) × (l.n + l.w ≤ l.v + 1)

abbrev pub decreases-loop-w : goal.decreases-loop-w
decreases-loop-w l =
    l.w
