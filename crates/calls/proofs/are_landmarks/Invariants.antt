-- `calls::are_landmarks` meets its contract: what is left of the list decides. Assumes nothing.
use Rattle.property.proofs.Basics.{◌≡◌, drop}
use Rattle.network.specs.Network.{are_landmarks}
use Rattle.calls.proofs.are_landmarks.Given as goal

abbrev pub invariant-loop-i : goal.invariant-loop-i
invariant-loop-i l =
    are_landmarks l.n (drop l.i l.vertices) ≡ are_landmarks l.n l.vertices
