-- `plate_track::plate_track_query` meets its contract. Assumes nothing.
use Rattle.spelling.specs.Code.{tally_words}
use Rattle.run.specs.Code.{counts}
use Rattle.plate_track.proofs.Spelling.{spelled_short, spelled_told}
use Rattle.plate_track.proofs.plate_track_query.Goals as goal

pub returns-then-reply-lt-REPLY_WORDS : goal.returns-then-reply-lt-REPLY_WORDS
returns-then-reply-lt-REPLY_WORDS c =
    spelled_short tally_words _ _ _ c.if-reply-lt-REPLY_WORDS.true

pub returns : goal.returns
returns c =
    spelled_told tally_words _ _ counts _ _ c.if-reply-lt-REPLY_WORDS.false c.query-r.ensures c.spell.ensures
