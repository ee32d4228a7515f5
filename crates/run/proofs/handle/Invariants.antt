-- `run::handle` meets its contract. The loop's invariant: the edges that are left, from the state now, come to what all edges of the vertex come
-- to from the state in which its bit is cleared; and the vertex keeps its word, which is read once. Assumes nothing.
use Rattle.property.proofs.Basics.{◌≡◌, foldl, ◌-◌, ◌≤◌, get_or, length}
use Rattle.property.specs.Property.{property}
use Rattle.graph.specs.Index.{part_in}
use Rattle.run.specs.Run as spec
use Rattle.run.specs.Code.{state, Ran}
use Rattle.run.proofs.handle.Given as goal

abbrev pub invariant-loop-j : goal.invariant-loop-j
invariant-loop-j l =
    (foldl (spec.relax (property l.p)) (state l.n l.words l.waiting l.t) (part_in l.packed l.heads l.weights l.u l.j (l.hi - l.j))
    ≡ foldl (spec.relax (property l.p)) (state l.n l.initial.words l.initial.waiting l.initial.t) (part_in l.packed l.heads l.weights l.u l.lo (l.hi - l.lo)))
    × (get_or l.firsts 0 0 ≤ l.lo) × (l.lo ≤ l.j) × (l.j ≤ l.hi) × (l.hi ≤ get_or l.firsts l.n 0) × Ran l.n l.words l.waiting l.initial.t l.t 0 0 (l.j - l.lo) × (get_or l.words l.u 0 ≡ l.v)
    × (l.hi ≤ length l.heads) × (l.hi ≤ length l.weights)
