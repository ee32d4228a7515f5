-- `compare::list_changes` meets its contract. Assumes nothing.
use Rattle.property.proofs.Basics.{◌≡◌, ℕ, ◌+◌, ◌-◌, length}
use Rattle.compare.specs.Code.{Tables}
use Rattle.compare.proofs.Walking.{Listed, old_table, new_table}
use Rattle.compare.proofs.list_changes.Given as goal

abbrev pub invariant-loop-i : goal.invariant-loop-i
invariant-loop-i l =
    ((n : ℕ) (t : Tables n l.count1 l.tails1 l.heads1 l.weights1 l.count2 l.tails2 l.heads2 l.weights2) → Listed (old_table t) (new_table t) l.list l.i l.j l.size) × (length l.list ≡ length l.initial.list)

abbrev pub decreases-loop-i : goal.decreases-loop-i
decreases-loop-i l =
    l.count1 + l.count2 - (l.i + l.j)
