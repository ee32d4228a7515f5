-- `listing::lines::put_vertices` meets its contract: the lines from vertex t on are still to be put. Assumes nothing.
use Rattle.property.proofs.Basics.{arith, ◌≡◌, ◌+◌, ◌-◌}
use Rattle.graph.specs.Edge.{range}
use Rattle.writer.proofs.Laid.{pending_start, pending_fits, pending_turn, pending_done}
use Rattle.listing.specs.Code.{rows_line, rows_lines}
use Rattle.listing.proofs.Rows.{lines_more, lines_done, lines_most}
use Rattle.listing.proofs.lines.put_vertices.Goals as goal

pub loop-t-init : goal.loop-t-init
loop-t-init c =
    let a = c.args in
    let z : a.n - 0 ≡ a.n = omega arith in
    let m = lines_most a.source a.n a.rows.now (omega arith) (λ i. omega (arith, c.type_inv.rows i)) a.n 0 (omega arith) in
    rw z (pending_start (record { room = omega (arith, m) }))

pub put_vertex-end-requires : goal.put_vertex-end-requires
put_vertex-end-requires c =
    let a = c.args in
    let t = c.loop-t.t in record { rows = (c.requires.0, omega arith); fits = pending_fits c.loop-t.invariant (rows_line a.source t a.n a.rows.now) (rows_lines a.source a.n a.rows.now (range (t + 1) (a.n - (t + 1)))) (lines_more a.source a.n a.rows.now t a.n (omega arith)) }

pub loop-t-preserved : goal.loop-t-preserved
loop-t-preserved c =
    let a = c.args in
    let t = c.loop-t.t in
    pending_turn c.loop-t.invariant (rows_line a.source t a.n a.rows.now) (rows_lines a.source a.n a.rows.now (range (t + 1) (a.n - (t + 1)))) (lines_more a.source a.n a.rows.now t a.n (omega arith))
    c.put_vertex-end.ensures

pub shape_of-out : goal.shape_of-out
shape_of-out c =
    c.loop-t.invariant.same

pub returns : goal.returns
returns c =
    let a = c.args in
    let p = c.loop-t.invariant in record { wrote = pending_done p (lines_done a.source a.n a.rows.now c.loop-t.t a.n (omega arith)); upper_bound = omega (arith, p.fits.room) }
