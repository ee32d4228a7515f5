-- `plate_track::plate_track_open` meets its contract. Assumes nothing.
use Rattle.spelling.specs.Code.{open_words}
use Rattle.plate_track.proofs.Spelling.{spelled_short, spelled_told}
use Rattle.plate_track.proofs.plate_track_open.Goals as goal

pub returns-then-reply-lt-REPLY_WORDS : goal.returns-then-reply-lt-REPLY_WORDS
returns-then-reply-lt-REPLY_WORDS c =
    spelled_short open_words _ _ _ c.if-reply-lt-REPLY_WORDS.true

pub returns : goal.returns
returns c =
    spelled_told open_words _ _ (λ u. tt) _ _ c.if-reply-lt-REPLY_WORDS.false c.open-r.ensures c.spell.ensures
