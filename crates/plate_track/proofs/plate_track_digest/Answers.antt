-- `plate_track::plate_track_digest` meets its contract. Assumes nothing.
use Rattle.property.proofs.Basics.{ap}
use Rattle.plate_track.specs.Code.{alone}
use Rattle.spelling.specs.Code.{digest_words}
use Rattle.digest.specs.Code.{digest_of}
use Rattle.plate_track.proofs.Spelling.{spelled_short, spelled_told}
use Rattle.plate_track.proofs.plate_track_digest.Goals as goal

pub returns-then-reply-lt-REPLY_WORDS : goal.returns-then-reply-lt-REPLY_WORDS
returns-then-reply-lt-REPLY_WORDS c =
    spelled_short digest_words _ _ _ c.if-reply-lt-REPLY_WORDS.true

pub returns : goal.returns
returns c =
    spelled_told digest_words _ _ digest_of _ _ c.if-reply-lt-REPLY_WORDS.false (ap alone c.digest_preview-r.ensures) c.spell.ensures
