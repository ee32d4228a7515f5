-- `plate_track::plate_track_choose` meets its contract. Assumes nothing.
use Rattle.property.proofs.Basics.{refl}
use Rattle.spelling.specs.Code.{choice_words}
use Rattle.spelling.proofs.Choosing.{choice_tells}
use Rattle.plate_track.proofs.Spelling.{spelled_short, spelled_reply}
use Rattle.plate_track.proofs.plate_track_choose.Goals as goal

pub returns-then-reply-lt-REPLY_WORDS : goal.returns-then-reply-lt-REPLY_WORDS
returns-then-reply-lt-REPLY_WORDS c =
    spelled_short choice_words _ _ _ c.if-reply-lt-REPLY_WORDS.true

pub returns : goal.returns
returns c =
    spelled_reply choice_words _ _ _ _ c.if-reply-lt-REPLY_WORDS.false refl (choice_tells _ _ c.choose_landmarks-r.ensures c.spell.ensures)
