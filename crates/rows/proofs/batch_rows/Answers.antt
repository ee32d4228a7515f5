-- `rows::batch_rows` meets its contract. Assumes nothing.
use Rattle.property.proofs.Basics.{arith, length}
use Rattle.network.specs.Network.{row_count}
use Rattle.calls.proofs.Rows.{row_ends}
use Rattle.rows.proofs.Rows.{counting_start, counting_turn, rows_start, rows_turn}
use Rattle.rows.proofs.batch_rows.Goals as goal

pub loop-r-init : goal.loop-r-init
loop-r-init c =
    (counting_start _ _, (λ es fs d o. rows_start _ _ es fs _))

-- the row at hand lies within the list
pub slice_bounds-batch_row-end : goal.slice_bounds-batch_row-end
slice_bounds-batch_row-end c =
    let l = c.loop-r in
    row_ends l.r (row_count c.args.landmarks.now) c.args.n (length l.rows) c.loop-r-test.true (omega (arith, c.requires.1, l.invariant.0.size))

pub loop-r-preserved : goal.loop-r-preserved
loop-r-preserved c =
    let zs = c.batch_row-row.new.words in (
      counting_turn _ _ c.loop-r.rows _ _ _ _ c.loop-r.invariant.0 c.loop-r-test.true zs c.batch_row-row.result c.batch_row-row.auto.words c.batch_row-row.ensures.row_low,
      (λ es fs d o. rows_turn _ _ es fs _ _ _ _ _ (c.loop-r.invariant.1 es fs d o) zs c.batch_row-row.result (c.batch_row-row.ensures.row_done es fs d o)),
    )
