-- `open::open_rows` meets its contract. The loop's invariant: the rows so far stand over the list. Assumes nothing.
use Rattle.property.proofs.Basics.{◌≡◌, List, map}
use Rattle.graph.specs.Refusal.{over}
use Rattle.graph.specs.Edge.{Edge, range}
use Rattle.graph.specs.Index.{Own}
use Rattle.network.specs.Network.{flat}
use Rattle.network.specs.Open.{open_row}
use Rattle.open.proofs.open_rows.Given as goal

abbrev pub invariant-loop-r : goal.invariant-loop-r
invariant-loop-r l =
    ((es : List Edge) → Own l.n l.index es → l.out ≡ over (flat (map (open_row l.n l.landmarks es) (range 0 l.r))) l.initial.out)
