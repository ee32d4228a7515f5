-- `spelling::spell::spell` meets its contract. Assumes nothing.
use Rattle.property.proofs.Basics.{sym}
use Rattle.graph.specs.Code.{reply_of}
use Rattle.spelling.specs.Code.{number_of, words_told}
use Rattle.spelling.proofs.Telling.{accepted_tells}
use Rattle.spelling.proofs.spell.spell.Goals as goal

pub returns-in-Ok : goal.returns-in-Ok
unfolding reply_of
returns-in-Ok g c =
    rw c.in-Ok.is (accepted_tells g.T.Answer.words _ c.requires _ c.put.ensures)

pub returns-in-Err : goal.returns-in-Err
unfolding reply_of number_of words_told
returns-in-Err g c =
    rw (c.in-Err.is, sym c.number.ensures, sym c.place.ensures) (record { number = c.spell_refusal.ensures.0; reply = c.spell_refusal.ensures.1 })
