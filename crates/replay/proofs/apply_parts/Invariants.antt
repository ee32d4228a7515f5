-- `replay::apply_parts` meets its contract: what is left of the batches gives, from here, the outcome of all. Assumes nothing.
use Rattle.property.proofs.Basics.{◌≡◌, ◌≤◌, length, drop}
use Rattle.calls.specs.Code.{network}
use Rattle.items.specs.Code.{changes_of}
use Rattle.replay.specs.Replay.{batches, batches_from}
use Rattle.replay.specs.Code.{carried}
use Rattle.replay.proofs.apply_parts.Given as goal

abbrev pub invariant-loop-end : goal.invariant-loop-end
invariant-loop-end l =
    (carried l.n l.landmarks (network l.tails l.heads l.weights l.forward l.backward l.present) l.accepted (batches_from l.from (drop l.end-index l.ends) (changes_of l.changes))
    ≡ carried l.n l.landmarks (network l.initial.tails l.initial.heads l.initial.weights l.initial.forward l.initial.backward l.count) 0 (batches l.ends (changes_of l.changes)))
    × (l.accepted ≤ l.end-index) × (l.end-index ≤ length l.ends)
    × (length l.tails ≡ length l.initial.tails) × (length l.heads ≡ length l.initial.heads) × (length l.weights ≡ length l.initial.weights)
    × (length l.forward ≡ length l.initial.forward) × (length l.backward ≡ length l.initial.backward)
