-- `open::open_rows` meets its contract. The loop's invariant: the rows so far stand over the list. Assumes nothing.
use Rattle.property.proofs.Basics.{◌≡◌, ap, ◌∙◌, map, ◌+◌, ◌*◌, ◌≤◌, arith, length}
use Rattle.graph.specs.Refusal.{over}
use Rattle.graph.specs.Edge.{range}
use Rattle.network.specs.Network.{row_count, flat}
use Rattle.network.specs.Open.{open_row}
use Rattle.network.proofs.Rows.{open_sized}
use Rattle.calls.proofs.Rows.{row_ends}
use Rattle.calls.proofs.Flat.{row_size, over_none, over_turn}
use Rattle.open.proofs.open_rows.Goals as goal

pub loop-r-init : goal.loop-r-init
loop-r-init c =
    let g = c.args in
    λ es o. over_none (open_row g.n g.landmarks.now es) g.out.now

pub overflow_mul-start : goal.overflow_mul-start
overflow_mul-start c =
    let within : let g = c.args in c.loop-r.r * g.n + g.n ≤ length c.loop-r.out = row_ends c.loop-r.r (row_count c.args.landmarks.now) c.args.n _ (omega (arith, c.loop-r-test.true)) (omega (arith, c.requires.n_in_bounds, c.loop-r.auto.out)) in
    omega (arith, within)

pub overflow_add-end : goal.overflow_add-end
overflow_add-end c =
    let within : let g = c.args in c.loop-r.r * g.n + g.n ≤ length c.loop-r.out = row_ends c.loop-r.r (row_count c.args.landmarks.now) c.args.n _ (omega (arith, c.loop-r-test.true)) (omega (arith, c.requires.n_in_bounds, c.loop-r.auto.out)) in
    omega (arith, within)

pub offset_bounds-out-start : goal.offset_bounds-out-start
offset_bounds-out-start c =
    let within : let g = c.args in c.loop-r.r * g.n + g.n ≤ length c.loop-r.out = row_ends c.loop-r.r (row_count c.args.landmarks.now) c.args.n _ (omega (arith, c.loop-r-test.true)) (omega (arith, c.requires.n_in_bounds, c.loop-r.auto.out)) in
    omega (arith, within)

pub slice_bounds-open_row-end : goal.slice_bounds-open_row-end
slice_bounds-open_row-end c =
    let within : let g = c.args in c.loop-r.r * g.n + g.n ≤ length c.loop-r.out = row_ends c.loop-r.r (row_count c.args.landmarks.now) c.args.n _ (omega (arith, c.loop-r-test.true)) (omega (arith, c.requires.n_in_bounds, c.loop-r.auto.out)) in
    omega (arith, within)

pub open_row-requires : goal.open_row-requires
open_row-requires c =
    let within : let g = c.args in c.loop-r.r * g.n + g.n ≤ length c.loop-r.out = row_ends c.loop-r.r (row_count c.args.landmarks.now) c.args.n _ (omega (arith, c.loop-r-test.true)) (omega (arith, c.requires.n_in_bounds, c.loop-r.auto.out)) in
    record { fit = c.requires.fit; r_bound = (omega arith, row_size c.args.n (c.loop-r.r * c.args.n) c.loop-r.out within) }

pub loop-r-preserved : goal.loop-r-preserved
loop-r-preserved c =
    let g = c.args in
    λ es o. over_turn (open_row g.n g.landmarks.now es) g.n (open_sized g.n g.landmarks.now es) c.loop-r.r g.out.now _ _ (c.loop-r.invariant es o) (c.open_row.ensures es o)

pub returns : goal.returns
returns c =
    let g = c.args in
    let e : c.loop-r.r ≡ row_count g.landmarks.now = omega arith in
    λ es o. c.loop-r.invariant es o ∙ ap (λ k. over (flat (map (open_row g.n g.landmarks.now es) (range 0 k))) g.out.now) e
