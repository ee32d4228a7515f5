-- `values::read_file` meets its contract. Assumes nothing.
use Rattle.property.proofs.Basics.{◌-◌, ◌≤◌, length}
use Rattle.values.proofs.read_file.Given as goal

abbrev pub invariant-loop-n : goal.invariant-loop-n
invariant-loop-n l = l.n ≤ length l.text

abbrev pub decreases-loop-n : goal.decreases-loop-n
decreases-loop-n l = length l.text - l.n
