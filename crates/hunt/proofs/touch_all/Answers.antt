-- `hunt::touch_all` meets its contract. The loop's invariant: the edges from place j on were taken (`Touched`). Assumes nothing.
use Rattle.property.proofs.Basics.{◌≡◌, ◌+◌, ◌-◌, ◌<◌, arith, length, get_or, needs}
use Rattle.graph.specs.Arc.{arc_head}
use Rattle.graph.proofs.Arcs.{fit_arc}
use Rattle.hunt.proofs.Touching.{touched_none, touched_turn}
use Rattle.hunt.proofs.touch_all.Goals as goal

pub overflow_cast-lo : goal.overflow_cast-lo
overflow_cast-lo c =
    omega (arith, c.type_inv.old c.args.u)

pub overflow_cast-hi : goal.overflow_cast-hi
overflow_cast-hi c =
    omega (arith, c.type_inv.old (c.args.u + 1))

pub loop-j-init : goal.loop-j-init
loop-j-init c =
    (touched_none c.requires.1 _ _ (omega arith), c.requires.1.index.rising c.args.u c.requires.0, omega arith)

pub offset_bounds-old-j : goal.offset_bounds-old-j
offset_bounds-old-j c =
    let arc : let a = c.args in let j = c.loop-j.j - 1 in (j < length a.old.now) × (arc_head (get_or a.old.now j 0) < length a.words.now) = let l = c.loop-j in
    let x = c.loop-j-test.true in
    let y = l.invariant.2 in
    fit_arc c.requires.1.index c.args.u (l.j - 1) c.requires.0 (omega arith) (omega arith) in
    let z = arc.0 in search needs

pub bounds-old-j : goal.bounds-old-j
bounds-old-j c =
    let arc : let a = c.args in let j = c.loop-j.j - 1 in (j < length a.old.now) × (arc_head (get_or a.old.now j 0) < length a.words.now) = let l = c.loop-j in
    let x = c.loop-j-test.true in
    let y = l.invariant.2 in
    fit_arc c.requires.1.index c.args.u (l.j - 1) c.requires.0 (omega arith) (omega arith) in
    let z = arc.0 in search needs

pub offset_bounds-other-j : goal.offset_bounds-other-j
offset_bounds-other-j c =
    let arc : let a = c.args in let j = c.loop-j.j - 1 in (j < length a.old.now) × (arc_head (get_or a.old.now j 0) < length a.words.now) = let l = c.loop-j in
    let x = c.loop-j-test.true in
    let y = l.invariant.2 in
    fit_arc c.requires.1.index c.args.u (l.j - 1) c.requires.0 (omega arith) (omega arith) in
    let z = arc.0 in search needs

pub bounds-other-j : goal.bounds-other-j
bounds-other-j c =
    let arc : let a = c.args in let j = c.loop-j.j - 1 in (j < length a.old.now) × (arc_head (get_or a.old.now j 0) < length a.words.now) = let l = c.loop-j in
    let x = c.loop-j-test.true in
    let y = l.invariant.2 in
    fit_arc c.requires.1.index c.args.u (l.j - 1) c.requires.0 (omega arith) (omega arith) in
    let z = arc.0 in search needs

pub touch-requires : goal.touch-requires
touch-requires c =
    let arc : let a = c.args in let j = c.loop-j.j - 1 in (j < length a.old.now) × (arc_head (get_or a.old.now j 0) < length a.words.now) = let l = c.loop-j in
    let x = c.loop-j-test.true in
    let y = l.invariant.2 in
    fit_arc c.requires.1.index c.args.u (l.j - 1) c.requires.0 (omega arith) (omega arith) in
    (arc.1, c.requires.1.index.few)

pub loop-j-preserved : goal.loop-j-preserved
loop-j-preserved c =
    let l = c.loop-j in
    let x = c.loop-j-test.true in
    let y = l.invariant.2 in
    (touched_turn l.j l.invariant.0 c.requires.1 c.requires.0 x y _ _ c.touch.ensures.marks_after c.touch.ensures.todo_after, omega arith, omega arith)

pub returns : goal.returns
returns c =
    let l = c.loop-j in let e : l.j ≡ _ = omega (arith, l.invariant.1, c.loop-j-test.false) in rw e at l.invariant.0
