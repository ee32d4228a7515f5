-- `plate_track::plate_track_preview_v2` meets its contract. Assumes nothing.
use Rattle.spelling.specs.Code.{open_words}
use Rattle.spelling.proofs.Telling.{told_by, replied_told}
use Rattle.plate_track.proofs.Spelling.{spelled_short, spelled_reply}
use Rattle.plate_track.proofs.plate_track_preview_v2.Goals as goal

pub returns-then-reply-lt-REPLY_WORDS : goal.returns-then-reply-lt-REPLY_WORDS
returns-then-reply-lt-REPLY_WORDS c =
    spelled_short open_words _ _ _ c.if-reply-lt-REPLY_WORDS.true

pub returns : goal.returns
returns c =
    spelled_reply open_words _ _ _ _ c.if-reply-lt-REPLY_WORDS.false c.preview_words-r.ensures
    (rw (replied_told c.preview_words-r.result) (told_by open_words (λ u. tt) _ c.spell.ensures))
