-- `routing::write::mark_edges` meets its contract: the marks of the edges still to come, over the list as it is, come to the same. Assumes nothing.
use Rattle.property.proofs.Basics.{arith, ap, ◌∙◌, ℕ}
use Rattle.property.specs.Property.{property}
use Rattle.routing.proofs.Writing.{marking_start, marking_turn, marking_done}
use Rattle.routing.proofs.write.mark_edges.Goals as goal

pub loop-i-init : goal.loop-i-init
loop-i-init c =
    let a = c.args in
    λ ps ws l e. rw c.start-v.ensures (marking_start a.p (property a.p).start a.k ps ws a.figures.now a.marks.now l e)

pub loop-i-preserved : goal.loop-i-preserved
loop-i-preserved c =
    let v = c.loop-i.invariant in
    let p = c.args.p in
    let x = c.along-x.ensures in
    λ ps ws q e. rw x (marking_turn (v ps ws q e) c.mark.result (omega arith) (omega arith) (λ b g. c.mark.ensures b (x ∙ ap (λ (w : ℕ). (property p).along c.loop-i.v w) g)))

pub returns : goal.returns
returns c =
    λ ps ws q e. marking_done (c.loop-i.invariant ps ws q e) c.loop-i-test.false
