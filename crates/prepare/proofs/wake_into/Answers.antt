-- `prepare::wake_into` meets its contract. The loop's invariant is `Raised`. Assumes nothing.
use Rattle.property.proofs.Basics.{◌+◌, ◌<◌, arith, length, get_or, needs}
use Rattle.graph.specs.Arc.{arc_head}
use Rattle.graph.proofs.Arcs.{fit_arc}
use Rattle.prepare.proofs.Starts.{raised_none, raised_turn, raised_as}
use Rattle.prepare.proofs.wake_into.Goals as goal

pub overflow_cast-hi : goal.overflow_cast-hi
overflow_cast-hi c =
    omega (arith, c.type_inv.into (c.args.v + 1))

pub overflow_cast-lo : goal.overflow_cast-lo
overflow_cast-lo c =
    omega (arith, c.type_inv.into c.args.v)

pub loop-j-init : goal.loop-j-init
loop-j-init c =
    ((raised_none _ _ (λ t q. let a = q.1 in let b = q.2 in omega arith), c.requires.2), omega arith, c.requires.1.rising c.args.v c.requires.0)

pub offset_bounds-into-j : goal.offset_bounds-into-j
offset_bounds-into-j c =
    let arc : let a = c.args in let j = c.loop-j.j in (j < length a.into.now) × (arc_head (get_or a.into.now j 0) < a.n) = let l = c.loop-j in fit_arc c.requires.1 c.args.v l.j c.requires.0 l.invariant.1 c.loop-j-test.true in
    let z = arc.0 in search needs

pub bounds-into-j : goal.bounds-into-j
bounds-into-j c =
    let arc : let a = c.args in let j = c.loop-j.j in (j < length a.into.now) × (arc_head (get_or a.into.now j 0) < a.n) = let l = c.loop-j in fit_arc c.requires.1 c.args.v l.j c.requires.0 l.invariant.1 c.loop-j-test.true in
    let z = arc.0 in search needs

pub overflow_cast-head : goal.overflow_cast-head
overflow_cast-head c =
    omega (arith, c.head.ensures)

pub insert-requires : goal.insert-requires
insert-requires c =
    let arc : let a = c.args in let j = c.loop-j.j in (j < length a.into.now) × (arc_head (get_or a.into.now j 0) < a.n) = let l = c.loop-j in fit_arc c.requires.1 c.args.v l.j c.requires.0 l.invariant.1 c.loop-j-test.true in
    omega (arith, c.head.ensures, arc.1, c.loop-j.invariant.0.1.few)

pub loop-j-preserved : goal.loop-j-preserved
loop-j-preserved c =
    let arc : let a = c.args in let j = c.loop-j.j in (j < length a.into.now) × (arc_head (get_or a.into.now j 0) < a.n) = let l = c.loop-j in fit_arc c.requires.1 c.args.v l.j c.requires.0 l.invariant.1 c.loop-j-test.true in
    let v = c.loop-j.invariant in
    (raised_turn v.0 arc.1 v.1 _ (rw c.head.ensures at c.insert.ensures), omega (arith, v.1), omega (arith, c.loop-j-test.true))

pub returns : goal.returns
returns c =
    let v = c.loop-j.invariant in let both = raised_as v.0 (omega (arith, c.loop-j-test.false, v.2)) in record { raised = both.0; marks = both.1 }
