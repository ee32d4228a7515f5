-- A settled check's answer is put as its words. Assumes nothing.
use Rattle.property.proofs.Basics.{arith, [], ◌∷◌}
use Rattle.settled_check.specs.Code.{spotted}
use Rattle.spelling.specs.Code.{check_words}
use Rattle.spelling.proofs.Telling.{set_all_over}
use Rattle.spelling.proofs.spell.OptionSpotAnswer.put.Goals as goal

pub returns-in-None : goal.returns-in-None
unfolding spotted check_words
returns-in-None c =
    rw c.in-None.is (set_all_over (1 ∷ []) _ (omega arith))

pub returns-in-Some : goal.returns-in-Some
unfolding spotted check_words
returns-in-Some c =
    let s = c.in-Some.spot in
    rw c.in-Some.is (set_all_over (0 ∷ s.side ∷ s.row ∷ s.record ∷ []) _ (omega arith))
