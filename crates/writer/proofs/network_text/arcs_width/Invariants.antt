-- `writer::network_text::arcs_width` meets its contract: the lines below k are summed. Assumes nothing.
use Rattle.property.proofs.Basics.{◌≡◌, ◌+◌, ◌*◌, ◌≤◌, length, drop}
use Rattle.graph.specs.Edge.{edges}
use Rattle.writer.specs.Code.{arcs_of}
use Rattle.writer.proofs.network_text.arcs_width.Given as goal

abbrev pub invariant-loop-k : goal.invariant-loop-k
invariant-loop-k l =
    (l.sum + length (arcs_of (drop l.k (edges l.tails l.heads l.weights l.count))) ≡ length (arcs_of (edges l.tails l.heads l.weights l.count))) × (l.sum ≤ 65 * l.k)
