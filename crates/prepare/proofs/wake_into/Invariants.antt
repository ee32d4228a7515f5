-- `prepare::wake_into` meets its contract. The loop's invariant is `Raised`. Assumes nothing.
use Rattle.property.proofs.Basics.{◌≤◌}
use Rattle.frontier.specs.Waiting.{waiting_of}
use Rattle.run.specs.Code.{Marks}
use Rattle.prepare.specs.Code.{Raised, Entering}
use Rattle.prepare.proofs.wake_into.Given as goal

abbrev pub invariant-loop-j : goal.invariant-loop-j
invariant-loop-j l =
    (Raised (waiting_of l.initial.waiting) (waiting_of l.waiting) (Entering l.into l.lo l.j) × Marks l.n l.waiting) × (l.lo ≤ l.j) × (l.j ≤ l.hi)
