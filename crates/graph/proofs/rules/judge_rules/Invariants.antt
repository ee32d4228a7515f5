-- `graph::rules::judge_rules` meets its contract. Assumes nothing.
use Rattle.property.proofs.Basics.{◌≡◌, ◌-◌, ◌≤◌, drop}
use Rattle.graph.specs.Edge.{edges}
use Rattle.graph.specs.Table.{follow, rules}
use Rattle.graph.specs.Code.{edge_at}
use Rattle.graph.proofs.rules.judge_rules.Given as goal

abbrev pub invariant-loop-k : goal.invariant-loop-k
invariant-loop-k l =
    (follow l.n l.k (edge_at l.tails l.heads l.weights (l.k - 1)) (drop l.k (edges l.tails l.heads l.weights l.count)) ≡ rules l.n (edges l.tails l.heads l.weights l.count)) × (1 ≤ l.k) × (l.k ≤ l.count)
