-- `routing::write::edges_back` meets its contract: on each trace, `k` edges before its end stands `u`. Assumes nothing.
use Rattle.property.proofs.Basics.{List, ◌-◌, ◌≤◌, length}
use Rattle.graph.specs.Edge.{Edge}
use Rattle.search.specs.Code.{Trace}
use Rattle.routing.proofs.Writing.{At}
use Rattle.routing.proofs.write.edges_back.Given as goal

abbrev pub invariant-loop-u : goal.invariant-loop-u
invariant-loop-u l =
    (ps : List Edge) → Trace l.s l.t l.via ps → (l.k ≤ length ps) × At l.s ps (length ps - l.k) l.u

abbrev pub decreases-loop-u : goal.decreases-loop-u
decreases-loop-u l =
    length l.via - l.k
