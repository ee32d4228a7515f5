-- `digest::count_effect` meets its contract: the vertices below t are counted. Assumes nothing.
use Rattle.property.proofs.Basics.{arith, ◌≡◌, sym, ◌∙◌, true, false, ◌<◌, ◌≤◌, take, get_or, get_or-take, length-take-le, eq-eqb, ne_eqb}
use Rattle.answers.specs.Digest.{effect_at}
use Rattle.digest.proofs.Turning.{count_start, count_turn, count_end}
use Rattle.digest.proofs.count_effect.Invariants.{has}
use Rattle.digest.proofs.count_effect.Goals.{then-effect-e, else-effect-e}
use Rattle.digest.proofs.count_effect.Goals as goal

pub loop-effect-init : goal.loop-effect-init
loop-effect-init c =
    count_start _ _

pub loop-effect-preserved : goal.loop-effect-preserved
loop-effect-preserved c =
    let a = c.args in
    let t = c.loop-effect.effect-index in
    let b : t < a.n = omega (arith, length-take-le a.n a.effects.now) in
    let same : get_or (take a.n a.effects.now) t 0 ≡ effect_at a.effects.now t = get_or-take a.n a.effects.now t 0 b in
    let on = count_turn (has a.e a.effects.now) a.n t c.loop-effect.count c.if-effect-e.count b c.loop-effect.invariant in
    elim c.if-effect-e.branch [ then-effect-e w ↦ on true (eq-eqb _ _ (sym same ∙ w.if-effect-e.true)) w.count-is | else-effect-e w ↦ on false (ne_eqb _ _ (λ z. w.if-effect-e.false (same ∙ z))) w.count-is ]

pub returns : goal.returns
returns c =
    let a = c.args in
    let b : a.n ≤ c.loop-effect.effect-index = omega (arith, length-take-le a.n a.effects.now) in
    count_end _ a.n _ _ b c.loop-effect.invariant
