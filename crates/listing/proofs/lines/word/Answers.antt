-- `listing::lines::word` meets its contract. Assumes nothing.
use Rattle.property.proofs.Basics.{arith, ◌+◌, ◌*◌, ◌≤◌, length}
use Rattle.property.specs.Property.{properties}
use Rattle.calls.proofs.Rows.{row_ends}
use Rattle.listing.proofs.lines.word.Goals as goal

pub overflow_mul-result : goal.overflow_mul-result
overflow_mul-result c =
    let within : c.args.p * c.args.n + c.args.n ≤ length c.args.rows.now = row_ends c.args.p properties c.args.n _ c.requires.1 c.requires.0.room in
    omega (arith, within)

pub overflow_add-result : goal.overflow_add-result
overflow_add-result c =
    let within : c.args.p * c.args.n + c.args.n ≤ length c.args.rows.now = row_ends c.args.p properties c.args.n _ c.requires.1 c.requires.0.room in
    omega (arith, within)

pub offset_bounds-rows-p : goal.offset_bounds-rows-p
offset_bounds-rows-p c =
    let within : c.args.p * c.args.n + c.args.n ≤ length c.args.rows.now = row_ends c.args.p properties c.args.n _ c.requires.1 c.requires.0.room in
    omega (arith, within)

pub bounds-rows-p : goal.bounds-rows-p
bounds-rows-p c =
    let within : c.args.p * c.args.n + c.args.n ≤ length c.args.rows.now = row_ends c.args.p properties c.args.n _ c.requires.1 c.requires.0.room in
    omega (arith, within)

pub overflow_cast-result : goal.overflow_cast-result
overflow_cast-result c =
    omega (arith, c.type_inv.rows (c.args.p * c.args.n + c.args.vertex))
