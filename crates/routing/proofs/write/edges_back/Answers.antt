-- `routing::write::edges_back` meets its contract: on each trace, `k` edges before its end stands `u`. Assumes nothing.
use Rattle.property.proofs.Basics.{needs, arith, ◌≡◌, List, ◌-◌, ◌+◌, ◌<◌, length}
use Rattle.graph.specs.Edge.{Edge}
use Rattle.search.specs.Code.{Trace}
use Rattle.routing.proofs.Writing.{at_last, at_inside, at_source, at_other, at_back}
use Rattle.routing.proofs.write.edges_back.Goals as goal

pub loop-u-init : goal.loop-u-init
loop-u-init c ps h =
    let e : length ps - 0 ≡ length ps = omega arith in (omega arith, rw e (at_last h))

pub overflow_cast-u : goal.overflow_cast-u
overflow_cast-u c =
    let near : c.loop-u.u < length c.args.via.now = let (ps, h) = c.requires in at_inside h (c.loop-u.invariant ps h).1 in
    let z = near in search needs

pub offset_bounds-via-u : goal.offset_bounds-via-u
offset_bounds-via-u c =
    let near : c.loop-u.u < length c.args.via.now = let (ps, h) = c.requires in at_inside h (c.loop-u.invariant ps h).1 in
    omega (arith, near)

pub bounds-via-u : goal.bounds-via-u
bounds-via-u c =
    let near : c.loop-u.u < length c.args.via.now = let (ps, h) = c.requires in at_inside h (c.loop-u.invariant ps h).1 in
    near

pub head-u-requires : goal.head-u-requires
head-u-requires c =
    tt

pub overflow_add-k : goal.overflow_add-k
overflow_add-k c =
    let more : (ps : List Edge) → Trace c.args.s c.args.t c.args.via.now ps → 0 < length ps - c.loop-u.k = λ ps h. at_other h (c.loop-u.invariant ps h).1 c.loop-u-test.true in
    let room : c.loop-u.k + 1 < length c.args.via.now = let (ps, h) = c.requires in omega (arith, more ps h, h.short) in
    omega (arith, room)

pub loop-u-smaller : goal.loop-u-smaller
loop-u-smaller c =
    let more : (ps : List Edge) → Trace c.args.s c.args.t c.args.via.now ps → 0 < length ps - c.loop-u.k = λ ps h. at_other h (c.loop-u.invariant ps h).1 c.loop-u-test.true in
    let room : c.loop-u.k + 1 < length c.args.via.now = let (ps, h) = c.requires in omega (arith, more ps h, h.short) in
    omega (arith, room)

pub loop-u-preserved : goal.loop-u-preserved
loop-u-preserved c =
    let more : (ps : List Edge) → Trace c.args.s c.args.t c.args.via.now ps → 0 < length ps - c.loop-u.k = λ ps h. at_other h (c.loop-u.invariant ps h).1 c.loop-u-test.true in
    λ ps h.
    let z = more ps h in
    (omega arith, rw c.head-u.ensures (at_back h (c.loop-u.invariant ps h).1 (length ps - (c.loop-u.k + 1)) (omega arith)))

pub returns : goal.returns
returns c =
    λ ps h. omega (arith, at_source h (c.loop-u.invariant ps h).1 c.loop-u-test.false, (c.loop-u.invariant ps h).0)
