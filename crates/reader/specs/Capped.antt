-- Items of network text as the program knows them: each number itself up to 65,535, and greater beyond. All limits lie below. Assumes nothing.
--
--   cap_item x    == the item with its numbers capped
--   cap_network o == what a line says, with its numbers capped
use Rattle.std.proofs.Math.Option.{Option, none, some}
use Rattle.graph.specs.Edge.{edge}
use Rattle.dimacs.specs.Network.{Item, problem, arc}
use Rattle.scanner.specs.Capped.{cap, cap_vertex}

unfoldable pub cap_item : Item → Item
cap_item (problem n m) = problem (cap n) (cap m)
cap_item (arc e) = arc (edge (cap_vertex e.tail) (cap_vertex e.head) (cap e.weight))

unfoldable pub cap_network : Option Item → Option Item
cap_network none = none
cap_network (some x) = some (cap_item x)
