-- `digest::count_moved` meets its contract: the vertices below t are counted. Assumes nothing.
use Rattle.property.proofs.Basics.{sym, ap, ◌∙◌, inl, inr, true, false, eqb, eq-eqb, ne_eqb}
use Rattle.property.specs.Property.{property}
use Rattle.graph.proofs.Tests.{and_true, and_false}
use Rattle.answers.specs.Digest.{effect_at, move_at, moves_to}
use Rattle.digest.proofs.Choosing.{told}
use Rattle.digest.proofs.Turning.{count_start, count_turn, count_end}
use Rattle.digest.proofs.count_moved.Invariants.{moved}
use Rattle.digest.proofs.count_moved.Goals.{then-effects-t-eq3+then-moves_to, else-effects-t-eq3, else-effects-t-eq3-via-then-effects-t-eq3+else-moves_to, else-effects-t-eq3-via-else-effects-t-eq3}
use Rattle.digest.proofs.count_moved.Goals as goal

pub loop-t-init : goal.loop-t-init
loop-t-init c =
    count_start _ _

pub loop-t-preserved : goal.loop-t-preserved
loop-t-preserved c =
    let a = c.args in
    let on = count_turn (moved a.p a.good a.effects.now a.moves.now) a.n c.loop-t.t c.loop-t.count c.if-effects-t-eq3.count c.loop-t-test.true c.loop-t.invariant in
    let d = ap (moves_to (property a.p) a.good) (told (move_at a.moves.now c.loop-t.t) c.d-1.given) in
    let e = eqb (effect_at a.effects.now c.loop-t.t) 3 in
    elim c.if-effects-t-eq3.branch [
      | then-effects-t-eq3+then-moves_to w ↦ on true (and_true (eq-eqb _ 3 w.if-effects-t-eq3.true) (sym (w.moves_to.ensures ∙ d) ∙ w.if-moves_to.true)) w.count-is
      | else-effects-t-eq3 w ↦ on false (elim w.else-effects-t-eq3.branch [ else-effects-t-eq3-via-then-effects-t-eq3+else-moves_to v ↦ and_false e _ (inr (sym (v.moves_to.ensures ∙ d) ∙ v.if-moves_to.false)) | else-effects-t-eq3-via-else-effects-t-eq3 v ↦ and_false e _ (inl (ne_eqb _ 3 v.if-effects-t-eq3.false)) ]) w.count-is
    ]

pub returns : goal.returns
returns c =
    count_end _ c.args.n c.loop-t.t c.loop-t.count c.loop-t-test.false c.loop-t.invariant
