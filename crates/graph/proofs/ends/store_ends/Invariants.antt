-- `graph::ends::store_ends` meets its contract. Assumes nothing.
use Rattle.property.proofs.Basics.{◌≡◌, ◌≤◌, length}
use Rattle.graph.specs.Parted.{Ends}
use Rattle.graph.proofs.ends.store_ends.Given as goal

abbrev pub invariant-loop-k : goal.invariant-loop-k
invariant-loop-k l =
    Ends l.k l.keys l.ends × (l.k ≤ l.count) × (length l.ends ≡ length l.initial.ends)
