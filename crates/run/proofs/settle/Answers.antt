-- `run::settle` meets its contract. The loop's invariant: the rounds that are left, from the state now, come to what `n` rounds come to from the
-- state at entry. Assumes nothing.
use Rattle.property.proofs.Basics.{sym, ◌∙◌, sub-zero, arith}
use Rattle.property.specs.Property.{property}
use Rattle.run.specs.Code.{state}
use Rattle.run.proofs.States.{bits_any, ran_none, ran_then, ran_within}
use Rattle.run.proofs.Rounds.{settle_more, settle_stop, settle_none}
use Rattle.run.proofs.settle.Goals as goal

pub loop-round-init : goal.loop-round-init
loop-round-init c =
    ((λ es o. rw sub-zero), omega arith, ran_none c.requires.sized c.args.tally 0 0 0)

pub returns-then-not-any : goal.returns-then-not-any
returns-then-not-any c =
    let g = c.args in
    let at = c.loop-round in
    let e = bits_any g.n at.waiting at.invariant.2.sized.waiting ∙ sym c.any.ensures ∙ c.if-not-any.true in record { result_after = λ es o. sym (settle_stop (property g.p) es g.n at._round (state g.n at.words at.waiting at.t) c.loop-round-test.true e) ∙ at.invariant.0 es o; ran = ran_within at.invariant.2 (omega arith) (omega arith) (omega (arith, c.requires.fit.few)) }

pub round-t-requires : goal.round-t-requires
round-t-requires c =
    let f = c.requires.fit.few in
    let r = c.loop-round.invariant.2 in
    record { fit = c.requires.fit; sized = r.sized; low = record { taken = omega arith; rounds = omega arith; stores = omega arith } }

pub loop-round-preserved : goal.loop-round-preserved
loop-round-preserved c =
    let g = c.args in
    let at = c.loop-round in
    let e = bits_any g.n at.waiting at.invariant.2.sized.waiting ∙ sym c.any.ensures ∙ c.if-not-any.false in (
      λ es o.
          sym (settle_more (property g.p) es g.n at._round (state g.n at.words at.waiting at.t) _ c.loop-round-test.true e (c.round-t.ensures.result_after es o))
          ∙ at.invariant.0 es o,
      omega arith,
      ran_then at.invariant.2 c.round-t.ensures.ran (omega arith) (omega arith) (omega arith),
    )

pub returns : goal.returns
returns c =
    let g = c.args in
    let at = c.loop-round in record { result_after = λ es o. sym (settle_none (property g.p) es g.n at._round (state g.n at.words at.waiting at.t) c.loop-round-test.false) ∙ at.invariant.0 es o; ran = ran_within at.invariant.2 (omega arith) (omega arith) (omega (arith, c.requires.fit.few)) }
