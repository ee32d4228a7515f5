-- `spelling::spell::spell_refusal` meets its contract. Assumes nothing.
use Rattle.property.proofs.Basics.{refl}
use Rattle.spelling.specs.Code.{words_told, open_words}
use Rattle.spelling.proofs.Telling.{refused_tells}
use Rattle.spelling.proofs.spell.spell_refusal.Goals as goal

pub returns : goal.returns
unfolding words_told
returns c =
    (refl, (refused_tells open_words c.args.reply.now c.requires c.args.number c.args.place).reply)
