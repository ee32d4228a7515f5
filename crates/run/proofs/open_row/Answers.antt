-- `run::open_row` meets its contract. Assumes nothing.
use Rattle.property.proofs.Basics.{length}
use Rattle.property.specs.Property.{property}
use Rattle.run.proofs.Starts.{opened_state, opened_sized}
use Rattle.run.proofs.open_row.Goals as goal

pub returns : goal.returns
returns c =
    let g = c.args in
    let P = property g.p in
    let m = length g.words.now in
    let w = c.start_at.new.waiting in
    let x = opened_state P g.n g.s m c.none.result c.start.result c.fill.new.dst w c.fill.ensures c.requires.2 c.none.ensures c.start.ensures c.start_at.ensures.waiting_after in
    let y = opened_sized P g.n g.s m c.none.result c.start.result c.fill.new.dst w c.fill.ensures c.requires.2 c.none.ensures c.start_at.ensures.marks in record { no_counts_after = x; sized = y }
