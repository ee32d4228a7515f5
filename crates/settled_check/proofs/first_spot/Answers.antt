-- `settled_check::first_spot` meets its contract: each loop's invariant says that what is left from here on gives the whole
-- check. Assumes nothing.
use Rattle.property.proofs.Basics.{arith, ◌*◌, ◌<◌, ◌≤◌, refl, sym, ◌∙◌, length}
use Rattle.graph.proofs.Own.{tails_below, heads_below}
use Rattle.network.specs.Network.{row_count}
use Rattle.calls.specs.Code.{Openable}
use Rattle.calls.proofs.Judging.{network_accept}
use Rattle.settled_check.proofs.Checking.{records_more, records_found, records_none, rows_more, rows_none, sides_all, sides_more, sides_none, checking_found, checking_settled}
use Rattle.calls.proofs.Rows.{row_ends}
use Rattle.settled_check.proofs.first_spot.Goals.{Start}
use Rattle.settled_check.proofs.first_spot.Goals as goal

-- what the judged network has
accepted_of : (c : Start) → let a = c.args in
    Openable a.n a.count a.landmarks.now a.tails.now a.heads.now a.weights.now
    × (row_count a.landmarks.now * a.n ≤ length a.forward.now) × (row_count a.landmarks.now * a.n ≤ length a.backward.now)
accepted_of c =
    let a = c.args in
    network_accept a.n a.landmarks.now a.tails.now a.heads.now a.weights.now a.count a.forward.now a.backward.now c.requires

pub overflow_mul-rows : goal.overflow_mul-rows
overflow_mul-rows c =
    let accepted = accepted_of (goal.at.overflow_mul-rows c).Start in
    omega (arith, accepted.0.landmarks.few)

pub sides-init : goal.sides-init
sides-init c =
    (sides_all _ _ _ _ _, refl)

pub loop-r-init : goal.loop-r-init
loop-r-init c =
    let l : c.sides.side < 2 = omega arith in
    (sides_more _ _ _ _ _ c.sides.side c.sides.invariant.0 l, c.sides.invariant.1)

pub loop-j-init : goal.loop-j-init
loop-j-init c =
    (rows_more _ _ _ _ _ c.loop-r.r _ c.loop-r.invariant.0 c.loop-r-test.true, c.loop-r.invariant.1)

pub is_spot-requires : goal.is_spot-requires
is_spot-requires c =
    let accepted = accepted_of (goal.at.is_spot-requires c).Start in
    let a = accepted in
    let o = a.0 in
    let g = c.args in
    let k : c.loop-r.r < row_count c.args.landmarks.now = c.loop-r-test.true in
    let j : c.loop-j.j < g.count = c.loop-j-test.true in
    let r = o.room in
    let e = tails_below g.n g.count g.tails.now g.heads.now g.weights.now r o.rules c.loop-j.j j in
    let h = heads_below g.n g.count g.tails.now g.heads.now g.weights.now r o.rules c.loop-j.j j in record { j_in_bounds = (omega arith, omega arith, omega arith); j_bound = (e, h); n_in_bounds = (row_ends _ _ _ _ k a.1, row_ends _ _ _ _ k a.2) }

pub loop-j-preserved : goal.loop-j-preserved
loop-j-preserved c =
    let accepted : let a = c.args in
    Openable a.n a.count a.landmarks.now a.tails.now a.heads.now a.weights.now
    × (row_count a.landmarks.now * a.n ≤ length a.forward.now) × (row_count a.landmarks.now * a.n ≤ length a.backward.now) = let a = c.args in
    network_accept a.n a.landmarks.now a.tails.now a.heads.now a.weights.now a.count a.forward.now a.backward.now c.requires in (
      records_more c.args.tails.now c.args.heads.now c.args.weights.now c.args.count accepted.0.room _ _ _ _ c.loop-j.j _ c.loop-j.invariant.0 c.loop-j-test.true (sym c.is_spot.ensures ∙ c.if-is_spot.false),
      c.loop-j.invariant.1,
    )

pub loop-r-preserved : goal.loop-r-preserved
loop-r-preserved c =
    let accepted = accepted_of (goal.at.loop-r-preserved c).Start in
    (records_none _ _ _ _ accepted.0.room _ _ _ _ c.loop-j.j _ c.loop-j.invariant.0 c.loop-j-test.false, c.loop-j.invariant.1)

pub sides-preserved : goal.sides-preserved
sides-preserved c =
    (rows_none _ _ _ _ _ c.loop-r.r _ c.loop-r.invariant.0 c.loop-r-test.false, c.loop-r.invariant.1)

pub returns-after-sides : goal.returns-after-sides
returns-after-sides c =
    checking_settled _ _ c.sides.invariant.1 (sides_none _ _ _ _ _ c.sides.side c.sides.invariant.0 c.sides-test.false)

pub returns-then-is_spot : goal.returns-then-is_spot
returns-then-is_spot c =
    let accepted = accepted_of (goal.at.returns-then-is_spot c).Start in
    checking_found _ _
    (records_found c.args.tails.now c.args.heads.now c.args.weights.now c.args.count accepted.0.room _ _ _ _ c.loop-j.j _ c.loop-j.invariant.0 c.loop-j-test.true (sym c.is_spot.ensures ∙ c.if-is_spot.true))
