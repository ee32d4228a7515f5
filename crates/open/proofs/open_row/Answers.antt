-- `open::open_row` meets its contract. Assumes nothing.
use Rattle.property.proofs.Basics.{arith}
use Rattle.open.proofs.Opening.{row_settled}
use Rattle.open.proofs.open_row.Goals as goal

pub overflow_cast-s : goal.overflow_cast-s
overflow_cast-s c =
    omega (arith, c.type_inv.landmarks c.row_landmark-i.result)

pub values_from-requires : goal.values_from-requires
values_from-requires c =
    (c.requires.fit.1.vertices c.row_landmark-i.result (omega (arith, c.row_landmark-i.ensures)), c.requires.fit.0, c.requires.r_bound.1)

pub returns : goal.returns
returns c =
    let g = c.args in
    λ es h. row_settled g.n g.r g.landmarks.now es c.row_property-p.ensures c.row_landmark-i.ensures (c.values_from.ensures.words_after es h)
