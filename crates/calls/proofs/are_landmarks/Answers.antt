-- `calls::are_landmarks` meets its contract: what is left of the list decides. Assumes nothing.
use Rattle.property.proofs.Basics.{arith, ◌≤◌, refl, sym, ◌∙◌, get_or}
use Rattle.calls.proofs.Judging.{landmark_high, landmark_twice, landmark_more, landmark_none}
use Rattle.calls.proofs.are_landmarks.Goals as goal

pub loop-i-init : goal.loop-i-init
loop-i-init c =
    refl

pub returns-then-v-n : goal.returns-then-v-n
returns-then-v-n c =
    let a = c.args in
    let h : a.n ≤ get_or a.vertices.now c.loop-i.i 0 = omega arith in
    landmark_high _ _ c.loop-i.i c.loop-i.invariant c.loop-i-test.true h

pub returns-then-is_in : goal.returns-then-is_in
returns-then-is_in c =
    landmark_twice _ _ c.loop-i.i c.loop-i.invariant c.loop-i-test.true c.if-v-n.false (sym c.is_in.ensures ∙ c.if-is_in.true)

pub loop-i-preserved : goal.loop-i-preserved
loop-i-preserved c =
    landmark_more _ _ c.loop-i.i c.loop-i.invariant c.loop-i-test.true c.if-v-n.false (sym c.is_in.ensures ∙ c.if-is_in.false)

pub returns : goal.returns
returns c =
    landmark_none _ _ c.loop-i.i c.loop-i.invariant c.loop-i-test.false
