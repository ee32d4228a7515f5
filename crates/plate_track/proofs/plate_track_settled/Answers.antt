-- `plate_track::plate_track_settled` meets its contract. Assumes nothing.
use Rattle.property.proofs.Basics.{ap}
use Rattle.plate_track.specs.Code.{alone}
use Rattle.spelling.specs.Code.{check_words}
use Rattle.settled_check.specs.Code.{spotted}
use Rattle.plate_track.proofs.Spelling.{spelled_short, spelled_told}
use Rattle.plate_track.proofs.plate_track_settled.Goals as goal

pub returns-then-reply-lt-REPLY_WORDS : goal.returns-then-reply-lt-REPLY_WORDS
returns-then-reply-lt-REPLY_WORDS c =
    spelled_short check_words _ _ _ c.if-reply-lt-REPLY_WORDS.true

pub returns : goal.returns
returns c =
    spelled_told check_words _ _ spotted _ _ c.if-reply-lt-REPLY_WORDS.false (ap alone c.find_relaxable-r.ensures) c.spell.ensures
