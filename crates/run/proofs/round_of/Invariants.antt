-- `run::round_of` meets its contract. The loop's invariant: the vertices from `i` on, visited from the state now, come to what all come to from the
-- state in which the round begins. Assumes nothing.
use Rattle.property.proofs.Basics.{◌≡◌, List, foldl, ◌-◌, ◌*◌, ◌≤◌}
use Rattle.property.specs.Property.{property}
use Rattle.graph.specs.Limits.{max_edges}
use Rattle.graph.specs.Edge.{Edge, range}
use Rattle.graph.specs.Index.{OwnIn}
use Rattle.run.specs.Run as spec
use Rattle.run.specs.Code.{state, Ran}
use Rattle.run.proofs.round_of.Given as goal

abbrev pub invariant-loop-i : goal.invariant-loop-i
invariant-loop-i l =
    ((es : List Edge) → OwnIn l.packed l.n l.firsts l.heads l.weights es
    → foldl (spec.visit (property l.p) es) (state l.n l.words l.waiting l.t) (range l.i (l.n - l.i)) ≡ foldl (spec.visit (property l.p) es) (state l.n l.initial.words l.initial.waiting l.initial.t) (range 0 l.n))
    × (l.i ≤ l.n) × Ran l.n l.words l.waiting l.initial.t l.t 0 0 (max_edges * l.i)

abbrev pub decreases-loop-i : goal.decreases-loop-i
decreases-loop-i l =
    l.n - l.i
