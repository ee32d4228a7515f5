-- `compare::align_change` meets its contract: the arcs of the vertex at hand are gone over one by one. Assumes nothing.
use Rattle.property.proofs.Basics.{◌+◌, ◌*◌, get_or}
use Rattle.compare.specs.Code.{tells_of}
use Rattle.compare.proofs.Beside.{Stored}
use Rattle.compare.proofs.align_change.Given as goal

abbrev pub invariant-loop-j : goal.invariant-loop-j
invariant-loop-j l =
    Stored (tells_of l.net l.old l.k) (get_or l.net (2 * l.k + 1) 0) l.j l.initial.other l.other
