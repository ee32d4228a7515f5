-- `digest::count_effect` meets its contract: the vertices below t are counted. Assumes nothing.
use Rattle.property.proofs.Basics.{Bool, List, ℕ, eqb}
use Rattle.answers.specs.Digest.{effect_at}
use Rattle.digest.proofs.Turning.{Counted}
use Rattle.digest.proofs.count_effect.Given as goal

abbrev pub has : ℕ → List ℕ → ℕ → Bool
has e effects t = eqb (effect_at effects t) e

abbrev pub invariant-loop-effect : goal.invariant-loop-effect
invariant-loop-effect l =
    Counted (has l.e l.effects) l.n l.effect-index l.count
