-- `lookup::index_of` meets its contract: what is left of the list decides. Assumes nothing.
use Rattle.property.proofs.Basics.{◌+◌, ◌≡◌, drop}
use Rattle.network.specs.Lookup.{index_of}
use Rattle.lookup.proofs.index_of.Given as goal

abbrev pub invariant-loop-i : goal.invariant-loop-i
invariant-loop-i l =
    l.i + index_of l.v (drop l.i l.vertices) ≡ index_of l.v l.vertices
