-- `run::pass` meets its contract. The loop's invariant: the entries that are left, from the state now, come to what the schedule comes to from the
-- state at entry. Assumes nothing.
use Rattle.property.proofs.Basics.{◌≡◌, false, List, foldl, ◌*◌, ◌≤◌, length, drop}
use Rattle.property.specs.Property.{property}
use Rattle.graph.specs.Limits.{max_edges}
use Rattle.graph.specs.Edge.{Edge}
use Rattle.graph.specs.Index.{OwnIn}
use Rattle.run.specs.Run as spec
use Rattle.run.specs.Code.{state, Ran}
use Rattle.run.proofs.pass.Given as goal

abbrev pub invariant-loop-entry : goal.invariant-loop-entry
invariant-loop-entry l =
    ((es : List Edge) → OwnIn false l.n l.firsts l.heads l.weights es
    → foldl (spec.take_entry (property l.p) es) (state l.n l.words l.waiting l.t) (drop l.entry-index l.schedule) ≡ spec.pass (property l.p) es l.schedule (state l.n l.initial.words l.initial.waiting l.initial.t))
    × (l.entry-index ≤ length l.schedule) × Ran l.n l.words l.waiting l.initial.t l.t l.entry-index 0 (max_edges * l.entry-index)
