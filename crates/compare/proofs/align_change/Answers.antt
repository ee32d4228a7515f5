-- `compare::align_change` meets its contract: the arcs of the vertex at hand are gone over one by one. Assumes nothing.
use Rattle.property.proofs.Basics.{arith, ap₂, ◌∙◌, ◌+◌, ◌*◌, ◌<◌, ◌≤◌, length, get_or}
use Rattle.graph.specs.Arc.{arc}
use Rattle.compare.proofs.Beside.{stored_turn, tells_test}
use Rattle.compare.proofs.align_change.Goals as goal

pub loop-j-preserved : goal.loop-j-preserved
loop-j-preserved c =
    let within : let is = c.args.old.now in (c.head-t.result + 1 < length is) × (get_or is (c.head-t.result + 1) 0 ≤ length is) = let (n, i, f) = c.requires.1 in
    let z = i (2 * c.args.k) (omega (arith, c.requires.0)) in
    let l = f.within c.head-t.result (omega (arith, c.head-t.ensures)) in
    (omega (arith, f.places, c.head-t.ensures), omega (arith, f.heads, l)) in
    let inside : let a = c.args in let j = c.loop-j.j in (j < length a.old.now) × (j < length c.loop-j.other) = let z = within.1 in
    (omega (arith, c.loop-j-test.true), omega (arith, c.loop-j-test.true, c.loop-j.invariant.size, c.requires.2)) in
    let a = c.args in
    let q = tells_test a.net.now a.old.now a.k c.loop-j.j _ c.head-t.ensures _ (c.arc-a.ensures ∙ ap₂ arc c.head.ensures c.weight.ensures) c.loop-j.auto.j c.loop-j-test.true in
    stored_turn _ _ c.loop-j.j _ _ c.loop-j.other c.loop-j.invariant inside.1 (c.chosen.ensures ∙ rw q)
