-- `writer::network_text::put_arcs` meets its contract: the lines from k on are still to be put. Assumes nothing.
use Rattle.property.proofs.Basics.{drop}
use Rattle.graph.specs.Edge.{edges}
use Rattle.writer.specs.Code.{arcs_of}
use Rattle.writer.proofs.Laid.{Pending}
use Rattle.writer.proofs.network_text.put_arcs.Given as goal

abbrev pub invariant-loop-k : goal.invariant-loop-k
invariant-loop-k l =
    Pending (arcs_of (edges l.tails l.heads l.weights l.count)) l.at l.initial.out (arcs_of (drop l.k (edges l.tails l.heads l.weights l.count))) l.end l.out
