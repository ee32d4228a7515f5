-- `plate_track::plate_track_route_v2` meets its contract. Assumes nothing.
use Rattle.spelling.specs.Code.{one_word}
use Rattle.plate_track.proofs.Spelling.{spelled_short, spelled_told}
use Rattle.plate_track.proofs.plate_track_route_v2.Goals as goal

pub returns-then-reply-lt-REPLY_WORDS : goal.returns-then-reply-lt-REPLY_WORDS
returns-then-reply-lt-REPLY_WORDS c =
    spelled_short one_word _ _ _ c.if-reply-lt-REPLY_WORDS.true

pub returns : goal.returns
returns c =
    spelled_told one_word _ _ (λ k. k) _ _ c.if-reply-lt-REPLY_WORDS.false c.route-r.ensures c.spell.ensures
