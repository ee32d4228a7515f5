-- `compare::turn` meets its contract. Assumes nothing.
use Rattle.property.proofs.Basics.{◌≡◌, ◌≤◌}
use Rattle.compare.specs.Code.{changes_in}
use Rattle.compare.proofs.Reversed.{Turned}
use Rattle.compare.proofs.turn.Given as goal

abbrev pub invariant-loop-k : goal.invariant-loop-k
invariant-loop-k l =
    Turned l.initial.list l.list l.k × (l.k ≤ l.size) × (l.size ≡ changes_in l.initial.list)
