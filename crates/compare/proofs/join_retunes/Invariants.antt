-- `compare::join_retunes` meets its contract: the changes are gone over one by one. Assumes nothing.
use Rattle.property.proofs.Basics.{◌≤◌}
use Rattle.compare.proofs.Joining.{Joined}
use Rattle.compare.proofs.join_retunes.Given as goal

abbrev pub invariant-loop-k : goal.invariant-loop-k
invariant-loop-k l =
    Joined l.initial.list l.list l.size l.k × (l.k ≤ l.size)
