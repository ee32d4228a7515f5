-- `listing::lines::put_source` meets its contract. The loop's invariant: the rows so far have the settled words of their queries. Assumes nothing.
use Rattle.property.proofs.Basics.{◌≡◌, ◌+◌, ◌*◌, length}
use Rattle.property.specs.Property.{properties}
use Rattle.graph.specs.Limits.{max_vertices}
use Rattle.calls.specs.Code.{network}
use Rattle.listing.specs.Code.{settled_row}
use Rattle.listing.proofs.Rows.{Filled}
use Rattle.listing.proofs.lines.put_source.Given as goal

abbrev pub invariant-loop-p : goal.invariant-loop-p
invariant-loop-p l =
    Filled (λ r. settled_row l.n l.landmarks (network l.tails l.heads l.weights l.forward l.backward l.count) l.source (r + 1)) l.n l.p l.rows × (length l.rows ≡ properties * max_vertices)
