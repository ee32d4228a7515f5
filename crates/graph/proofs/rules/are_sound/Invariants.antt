-- `graph::rules::are_sound` meets its contract. Assumes nothing.
--
-- The bound of a tail is that of the tails before it, for tails never fall. So the invariant speaks of the tail of the last record that was gone
-- past: if it is a vertex, what is left to judge gives the verdict on all. After the last record it is tested.
use Rattle.property.proofs.Basics.{◌-◌, ◌≤◌}
use Rattle.graph.proofs.Ranks.{Sofar}
use Rattle.graph.proofs.rules.are_sound.Given as goal

abbrev pub invariant-loop-k : goal.invariant-loop-k
invariant-loop-k l =
    (Sofar l.n l.tails l.heads l.weights l.count l.tall l.wide l.all l.last l.k) × (1 ≤ l.k) × (l.k ≤ l.count)
