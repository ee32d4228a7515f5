-- `rows::batch_row` meets its contract. Assumes nothing.
use Rattle.property.proofs.Basics.{arith, refl, ◌∙◌}
use Rattle.rows.proofs.Row.{row_done}
use Rattle.rows.proofs.batch_row.Goals as goal

pub prepare-affected-requires : goal.prepare-affected-requires
prepare-affected-requires c =
    let l = c.requires.3 in (l.inside, l.old, c.requires.4, l.into, c.requires.2)

pub run_unscheduled-t-requires : goal.run_unscheduled-t-requires
run_unscheduled-t-requires c =
    (c.requires.3.new, record { words = c.prepare-affected.auto.words ∙ c.requires.2; waiting = c.prepare-affected.ensures.marks.0 })

pub returns : goal.returns
returns c =
    let w = c.run_unscheduled-t.ensures.ran.stores in record {
      row_low = record { few = c.prepare-affected.ensures.marks.1; low = omega arith };
      row_done = (λ es fs d o.
          row_done c.args.n c.args.r c.args.landmarks.now es fs _ _ _ _ _ c.run_unscheduled-t.result c.row_property-p.ensures c.row_landmark-i.ensures (c.prepare-affected.ensures.no_tally_after es fs d.batch o).0 (c.run_unscheduled-t.ensures.result_after fs d.new)
          _ (c.prepare-affected.ensures.no_tally_after es fs d.batch o).1 refl);
    }
