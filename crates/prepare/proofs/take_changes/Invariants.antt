-- `prepare::take_changes` meets its contract. The loop's invariant is `Raised` of the tails that are to do and of those that wait. Assumes nothing.
use Rattle.property.proofs.Basics.{◌≤◌, length}
use Rattle.property.specs.Property.{property}
use Rattle.frontier.specs.Waiting.{waiting_of}
use Rattle.run.specs.Code.{Marks}
use Rattle.compare.specs.Code.{changes_in}
use Rattle.prepare.specs.Code.{Raised, Started, Woken}
use Rattle.prepare.proofs.take_changes.Given as goal

abbrev pub invariant-loop-k : goal.invariant-loop-k
invariant-loop-k l =
    (Raised (waiting_of l.initial.todo) (waiting_of l.todo) (Started (property l.p) l.s l.words l.net l.k) × Marks (length l.words) l.todo)
    × (Raised (waiting_of l.initial.waiting) (waiting_of l.waiting) (Woken (property l.p) l.net l.k) × Marks (length l.words) l.waiting) × (l.k ≤ changes_in l.net)
