-- `digest::count_moved` meets its contract: the vertices below t are counted. Assumes nothing.
use Rattle.property.proofs.Basics.{Bool, ◌&&◌, List, ℕ, eqb}
use lib.IntN.{ℤ}
use Rattle.property.specs.Property.{property}
use Rattle.answers.specs.Digest.{effect_at, move_at, moves_to}
use Rattle.digest.proofs.Turning.{Counted}
use Rattle.digest.proofs.count_moved.Given as goal

abbrev pub moved : ℕ → Bool → List ℕ → List ℤ → ℕ → Bool
moved p good effects moves t = eqb (effect_at effects t) 3 && moves_to (property p) good (move_at moves t)

abbrev pub invariant-loop-t : goal.invariant-loop-t
invariant-loop-t l =
    Counted (moved l.p l.good l.effects l.moves) l.n l.t l.count
