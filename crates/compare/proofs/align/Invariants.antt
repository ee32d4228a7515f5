-- `compare::align` meets its contract: a copy of the index, and the changes gone over one by one. Assumes nothing.
use Rattle.property.proofs.Basics.{◌≡◌, length}
use Rattle.compare.proofs.Beside.{Aligned}
use Rattle.compare.proofs.align.Given as goal

abbrev pub invariant-loop-k : goal.invariant-loop-k
invariant-loop-k l =
    Aligned l.net l.old l.k l.other × (length l.other ≡ length l.initial.other)
