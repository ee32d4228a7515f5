-- `items::apply_items` meets its contract: what is left of the changes gives, from here, the verdict and the edges of all. Assumes nothing.
use Rattle.property.proofs.Basics.{◌≡◌, List, ◌≤◌, length, drop}
use Rattle.graph.specs.Edge.{edges}
use Rattle.network.specs.Change.{Change, edits, items}
use Rattle.items.specs.Code.{Laid}
use Rattle.calls.specs.Code.{Tabled}
use Rattle.items.proofs.apply_items.Given as goal

abbrev pub invariant-loop-k : goal.invariant-loop-k
invariant-loop-k l =
    ((cs : List Change) → Laid l.size cs l.lists → (items l.n l.k (edges l.tails l.heads l.weights l.m) (drop l.k cs) ≡ items l.n 0 (edges l.initial.tails l.initial.heads l.initial.weights l.count) cs) × (edits (edges l.tails l.heads l.weights l.m) (drop l.k cs) ≡ edits (edges l.initial.tails l.initial.heads l.initial.weights l.count) cs))
    × Tabled l.n l.m l.tails l.heads l.weights
    × (l.k ≤ l.size) × (length l.tails ≡ length l.initial.tails) × (length l.heads ≡ length l.initial.heads) × (length l.weights ≡ length l.initial.weights)
