-- `plate_track::plate_track_read` meets its contract. Assumes nothing.
use Rattle.spelling.specs.Code.{size_words}
use Rattle.reader.specs.Code.{sized}
use Rattle.plate_track.proofs.Spelling.{spelled_short, spelled_told}
use Rattle.plate_track.proofs.plate_track_read.Goals as goal

pub returns-then-reply-lt-REPLY_WORDS : goal.returns-then-reply-lt-REPLY_WORDS
returns-then-reply-lt-REPLY_WORDS c =
    spelled_short size_words _ _ _ c.if-reply-lt-REPLY_WORDS.true

pub returns : goal.returns
returns c =
    spelled_told size_words _ _ sized _ _ c.if-reply-lt-REPLY_WORDS.false c.read_network-r.ensures c.spell.ensures
