-- `batch::copy_changes` meets its contract: the changes below i are copied. Assumes nothing.
use Rattle.property.proofs.Basics.{◌≡◌, ◌≤◌, length}
use Rattle.batch.specs.Code.{copied}
use Rattle.batch.proofs.copy_changes.Given as goal

abbrev pub invariant-loop-i : goal.invariant-loop-i
invariant-loop-i l =
    (l.lists ≡ copied l.changes l.initial.lists l.i) × (l.i ≤ l.k) × (length l.lists ≡ length l.initial.lists)
