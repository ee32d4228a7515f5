-- `digest::find_most` meets its contract: of the vertices below t the one that loses most is found. Assumes nothing.
use Rattle.property.proofs.Basics.{arith, ◌≡◌, sym, ap, ◌∙◌, ℕ, foldl}
use Rattle.property.specs.Property.{property}
use Rattle.graph.specs.Edge.{range}
use Rattle.answers.specs.Digest.{effect_at, move_at, is_loss}
use Rattle.digest.proofs.Choosing.{told}
use Rattle.digest.proofs.find_most.Invariants.{more_told, next, found_start, turn}
use Rattle.digest.proofs.find_most.Goals.{then-is_loser+then-most-n, then-is_loser+else-most-n+then-loses_more, then-is_loser+else-most-n+else-loses_more, else-is_loser}
use Rattle.digest.proofs.find_most.Goals as goal

pub loop-t-init : goal.loop-t-init
loop-t-init c =
    let a = c.args in found_start a.p a.n a.effects.now a.moves.now

pub loop-t-preserved : goal.loop-t-preserved
loop-t-preserved c =
    let a = c.args in
    let t = c.loop-t.t in
    let u = c.loop-t.most in
    let on = turn a.p a.n a.effects.now a.moves.now u t c.if-is_loser.most c.loop-t-test.true c.loop-t.invariant in
    let one = c.is_loser.ensures ∙ ap (is_loss (property a.p) (effect_at a.effects.now t)) (told (move_at a.moves.now t) c.d-1.given) in
    let than = more_told (property a.p) (effect_at a.effects.now t) (move_at a.moves.now t) (effect_at a.effects.now u) (move_at a.moves.now u) c.d-1.given in
    elim c.if-is_loser.branch [
      | then-is_loser+then-most-n w ↦ on.first (sym one ∙ w.if-is_loser.true) w.if-most-n.true w.most-is
      | then-is_loser+else-most-n+then-loses_more w ↦ on.worse (sym one ∙ w.if-is_loser.true) (sym (w.loses_more.ensures ∙ than w.g-1.given) ∙ w.if-loses_more.true) w.most-is
      | then-is_loser+else-most-n+else-loses_more w ↦ on.less w.if-most-n.false (sym (w.loses_more.ensures ∙ than w.g-1.given) ∙ w.if-loses_more.false) w.most-is
      | else-is_loser w ↦ on.spared (sym one ∙ w.if-is_loser.false) w.most-is
    ]

pub returns : goal.returns
returns c =
    let a = c.args in
    let e : c.loop-t.t ≡ a.n = omega arith in
    (c.loop-t.invariant.0 ∙ ap (λ (t : ℕ). foldl (next a.p a.n a.effects.now a.moves.now) a.n (range 0 t)) e, c.loop-t.invariant.2)
