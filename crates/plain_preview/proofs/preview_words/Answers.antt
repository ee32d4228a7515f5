-- `plain_preview::preview_words` meets its contract. Assumes nothing.
use Rattle.property.proofs.Basics.{arith, length}
use Rattle.items.specs.Code.{changes_of}
use Rattle.items.proofs.Laying.{part_all}
use Rattle.plain_preview.proofs.preview_words.Goals as goal

pub returns : goal.returns
returns c =
    let cs = c.args.changes.now in
    c.preview_laid.ensures (changes_of cs) (rw (part_all cs (length cs) (omega arith)) at c.lay.ensures)
