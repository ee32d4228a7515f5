-- `listing::lines::put_source` meets its contract. The loop's invariant: the rows so far have the settled words of their queries. Assumes nothing.
use Rattle.property.proofs.Basics.{arith, refl, sym, ◌∙◌, ◌+◌, ◌-◌, ◌*◌, ◌≤◌, length}
use borrow.Rule.Slice.PartMut.{same_len_mid}
use Rattle.property.specs.Property.{properties}
use Rattle.calls.specs.Code.{network}
use Rattle.calls.proofs.Rows.{row_ends}
use Rattle.calls.proofs.Flat.{row_size}
use Rattle.listing.specs.Listing.{graph}
use Rattle.listing.specs.Code.{settled_row}
use Rattle.listing.proofs.Rows.{filled_turn, lines_rows}
use Rattle.listing.proofs.lines.put_source.Goals as goal

pub loop-p-init : goal.loop-p-init
loop-p-init c =
    (λ r h. absurd (omega arith), refl)

pub overflow_mul-from : goal.overflow_mul-from
overflow_mul-from c =
    let within : let n = c.args.n in c.loop-p.p * n + n ≤ length c.loop-p.rows = row_ends c.loop-p.p properties c.args.n _ c.loop-p-test.true (omega (arith, c.requires.vertices, c.loop-p.invariant.1)) in
    omega (arith, within)

pub overflow_add-to : goal.overflow_add-to
overflow_add-to c =
    let within : let n = c.args.n in c.loop-p.p * n + n ≤ length c.loop-p.rows = row_ends c.loop-p.p properties c.args.n _ c.loop-p-test.true (omega (arith, c.requires.vertices, c.loop-p.invariant.1)) in
    omega (arith, within)

pub offset_bounds-rows-from : goal.offset_bounds-rows-from
offset_bounds-rows-from c =
    let within : let n = c.args.n in c.loop-p.p * n + n ≤ length c.loop-p.rows = row_ends c.loop-p.p properties c.args.n _ c.loop-p-test.true (omega (arith, c.requires.vertices, c.loop-p.invariant.1)) in
    omega (arith, within)

pub slice_bounds-rows-end : goal.slice_bounds-rows-end
slice_bounds-rows-end c =
    let within : let n = c.args.n in c.loop-p.p * n + n ≤ length c.loop-p.rows = row_ends c.loop-p.p properties c.args.n _ c.loop-p-test.true (omega (arith, c.requires.vertices, c.loop-p.invariant.1)) in
    omega (arith, within)

pub settle_row-requires : goal.settle_row-requires
settle_row-requires c =
    let within : let n = c.args.n in c.loop-p.p * n + n ≤ length c.loop-p.rows = row_ends c.loop-p.p properties c.args.n _ c.loop-p-test.true (omega (arith, c.requires.vertices, c.loop-p.invariant.1)) in
    (c.requires.vertices, row_size c.args.n _ c.loop-p.rows within)

pub loop-p-preserved : goal.loop-p-preserved
loop-p-preserved c =
    let within : let n = c.args.n in c.loop-p.p * n + n ≤ length c.loop-p.rows = row_ends c.loop-p.p properties c.args.n _ c.loop-p-test.true (omega (arith, c.requires.vertices, c.loop-p.invariant.1)) in
    let g = c.args in
    let n = g.n in
    let a = c.loop-p.p * n in
    let part = c.settle_row.new.row in
    let size = c.settle_row.auto.row in (
      filled_turn (λ r. settled_row n g.landmarks.now (network g.tails.now g.heads.now g.weights.now g.forward.now g.backward.now g.count) g.source (r + 1)) n c.loop-p.p (a + n - a) c.loop-p.rows part within (size ∙ row_size n a c.loop-p.rows within) c.settle_row.ensures c.loop-p.invariant.0,
      same_len_mid a (a + n - a) c.loop-p.rows part size ∙ c.loop-p.invariant.1,
    )

pub slice_bounds-put_vertices-end : goal.slice_bounds-put_vertices-end
slice_bounds-put_vertices-end c =
    sym c.loop-p.invariant.1

pub put_vertices-requires : goal.put_vertices-requires
put_vertices-requires c =
    (record { vertices = c.requires.vertices; room = omega (arith, c.loop-p.invariant.1, c.requires.vertices) }, c.requires)

pub shape_of-out : goal.shape_of-out
shape_of-out c =
    c.put_vertices.auto.out

pub returns : goal.returns
returns c =
    let a = c.args in record { wrote = λ es ls. rw (lines_rows (graph a.n es) _ a.source _ c.loop-p.rows ls (λ r h. c.loop-p.invariant.0 r (omega (arith, c.loop-p-test.false))) a.n 0 (omega arith)) c.put_vertices.ensures.wrote; upper_bound = c.put_vertices.ensures.upper_bound }
