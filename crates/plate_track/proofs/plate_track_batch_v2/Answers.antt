-- `plate_track::plate_track_batch_v2` meets its contract. Assumes nothing.
use Rattle.property.proofs.Basics.{arith, ◌-◌, length}
use Rattle.items.proofs.Laying.{part_all}
use Rattle.spelling.specs.Code.{report_words}
use Rattle.apply.specs.Code.{reporting}
use Rattle.plate_track.proofs.Spelling.{spelled_short, spelled_told}
use Rattle.plate_track.proofs.plate_track_batch_v2.Goals as goal

pub returns-then-reply-lt-REPLY_WORDS : goal.returns-then-reply-lt-REPLY_WORDS
returns-then-reply-lt-REPLY_WORDS c =
    spelled_short report_words _ _ _ c.if-reply-lt-REPLY_WORDS.true

pub returns : goal.returns
returns c =
    let cs = c.args.changes.now in
    spelled_told report_words _ _ reporting _ _ c.if-reply-lt-REPLY_WORDS.false (rw (part_all cs (length cs - 0) (omega arith)) at c.batch_part-r.ensures) c.spell.ensures
