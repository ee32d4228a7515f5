-- `rows::batch_side` meets its contract. Assumes nothing.
use Rattle.property.proofs.Basics.{arith, length-replicate, ℕ}
use Rattle.rows.proofs.batch_side.Goals as goal

pub batch_rows-requires : goal.batch_rows-requires
batch_rows-requires c =
    let z = length-replicate {A = ℕ} 2305 0 in
    (c.requires.0, c.requires.1, c.requires.2, omega (arith, c.align.ensures.other_len_unchanged, c.requires.3))

pub returns : goal.returns
returns c =
    let e = c.batch_rows.ensures in
    let l = c.requires.2 in record { rows_low = e.rows_low; rows_done = λ es fs d. e.rows_done es fs d (c.align.ensures.by_index c.args.n es fs l.inside l.old d.batch.old d.batch.net) }
