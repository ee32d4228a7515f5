-- `sides::batch_sides` meets its contract. Assumes nothing.
use Rattle.property.proofs.Basics.{arith, ◌+◌, needs}
use Rattle.sides.proofs.Turning.{side_forward, side_backward}
use Rattle.sides.proofs.batch_sides.Goals as goal

pub batch_side-f-requires : goal.batch_side-f-requires
batch_side-f-requires c =
    let l = c.requires.n_le_max_vertices.2 in
    (c.requires.n_le_max_vertices.1, omega (arith, c.requires.n_in_bounds), record { inside = l.inside; old = l.old; new = l.new; into = l.rnew }, l.short.0)

pub batch_side-b-requires : goal.batch_side-b-requires
batch_side-b-requires c =
    let l = c.requires.n_le_max_vertices.2 in
    (c.requires.n_le_max_vertices.1, omega (arith, c.requires.n_in_bounds), record { inside = c.turn.ensures.0 c.args.n l.inside; old = l.rold; new = search needs; into = search needs }, l.short.1)

pub overflow_add-result : goal.overflow_add-result
overflow_add-result c =
    let x = c.batch_side-f.ensures.rows_low in let y = c.batch_side-b.ensures.rows_low in omega arith

pub overflow_add-result-2 : goal.overflow_add-result-2
overflow_add-result-2 c =
    let x = c.batch_side-f.ensures.rows_low in let y = c.batch_side-b.ensures.rows_low in omega arith

pub returns : goal.returns
returns c =
    λ es fs d.
    let x = c.batch_side-f.ensures.rows_done es fs (side_forward _ es fs _ _ _ _ _ d) in
    let y = c.batch_side-b.ensures.rows_done _ _ (side_backward _ es fs _ _ _ _ _ d _ (c.turn.ensures.1 es fs d.net)) in
    record { affected = λ i. x.affected i + y.affected i; stores = λ i. x.stores i + y.stores i; forward = x.words; backward = y.words }
