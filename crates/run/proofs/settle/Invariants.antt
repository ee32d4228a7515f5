-- `run::settle` meets its contract. The loop's invariant: the rounds that are left, from the state now, come to what `n` rounds come to from the
-- state at entry. Assumes nothing.
use Rattle.property.proofs.Basics.{◌≡◌, List, ◌-◌, ◌*◌, ◌≤◌}
use Rattle.property.specs.Property.{property}
use Rattle.graph.specs.Limits.{max_vertices, max_edges}
use Rattle.graph.specs.Edge.{Edge}
use Rattle.graph.specs.Index.{OwnIn}
use Rattle.run.specs.Run as spec
use Rattle.run.specs.Code.{state, Ran}
use Rattle.run.proofs.settle.Given as goal

abbrev pub invariant-loop-round : goal.invariant-loop-round
invariant-loop-round l =
    ((es : List Edge) → OwnIn l.packed l.n l.firsts l.heads l.weights es
    → spec.settle (property l.p) es l.n (l.n - l._round) (state l.n l.words l.waiting l.t) ≡ spec.settle (property l.p) es l.n l.n (state l.n l.initial.words l.initial.waiting l.initial.t))
    × (l._round ≤ l.n) × Ran l.n l.words l.waiting l.initial.t l.t 0 l._round (max_vertices * max_edges * l._round)
