-- `calls::is_in` meets its contract: what is left of the list decides. Assumes nothing.
use Rattle.property.proofs.Basics.{◌≡◌, drop}
use Rattle.network.specs.Network.{is_in}
use Rattle.calls.proofs.is_in.Given as goal

abbrev pub invariant-loop-i : goal.invariant-loop-i
invariant-loop-i l =
    is_in l.v (drop l.i l.vertices) ≡ is_in l.v (drop l.from l.vertices)
