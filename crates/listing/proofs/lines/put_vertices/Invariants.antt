-- `listing::lines::put_vertices` meets its contract: the lines from vertex t on are still to be put. Assumes nothing.
use Rattle.property.proofs.Basics.{◌-◌}
use Rattle.graph.specs.Edge.{range}
use Rattle.writer.proofs.Laid.{Pending}
use Rattle.listing.specs.Code.{rows_lines}
use Rattle.listing.proofs.lines.put_vertices.Given as goal

abbrev pub invariant-loop-t : goal.invariant-loop-t
invariant-loop-t l =
    Pending (rows_lines l.source l.n l.rows (range 0 l.n)) 0 l.initial.out (rows_lines l.source l.n l.rows (range l.t (l.n - l.t))) l.end l.out
