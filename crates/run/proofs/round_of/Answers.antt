-- `run::round_of` meets its contract. The loop's invariant: the vertices from `i` on, visited from the state now, come to what all come to from the
-- state in which the round begins. Assumes nothing.
use Rattle.property.proofs.Basics.{sym, ◌∙◌, ◌<◌, sub-zero, arith}
use Rattle.property.specs.Property.{property}
use Rattle.frontier.specs.Waiting.{waiting_of}
use Rattle.frontier.proofs.Laws.{First, next_first, next_none}
use Rattle.run.proofs.States.{marks_within, ran_none, ran_then}
use Rattle.run.proofs.Rounds.{round_next, round_none, round_ends, round_begins, ran_round}
use Rattle.run.proofs.round_of.Goals as goal

pub loop-i-init : goal.loop-i-init
loop-i-init c =
    ((λ es o. rw sub-zero), omega arith, ran_none c.requires.sized _ 0 0 0)

pub next_from-requires : goal.next_from-requires
next_from-requires c =
    omega (arith, c.requires.fit.few)

pub returns-in_default : goal.returns-in_default
returns-in_default c =
    let g = c.args in
    let at = c.loop-i in record {
      result_after = λ es o.
          round_none (property g.p) es g.n at.i at.words at.waiting at.t _ (at.invariant.0 es o)
          (next_none (waiting_of at.waiting) at.i (sym c.next_from.ensures.next ∙ c.in_default.is))
          ∙ round_begins (property g.p) es g.n g.words.now g.waiting.now g.tally;
      ran = ran_round g.tally at.invariant.2 (omega (arith, c.requires.fit.few));
    }

pub handle-t-requires : goal.handle-t-requires
handle-t-requires c =
    let found : First (waiting_of c.loop-i.waiting) c.loop-i.i c.in-Some.v = next_first _ _ _ (sym c.next_from.ensures.next ∙ c.in-Some.is) in
    let found_within : c.in-Some.v < c.args.n = marks_within _ c.loop-i.waiting _ c.loop-i.invariant.2.sized.waiting found.waits in
    let f = c.requires.fit.few in
    let r = c.loop-i.invariant.2 in (
      c.args.n,
      found_within,
      record { fit = c.requires.fit; sized = r.sized; low = record { taken = omega arith; rounds = omega arith; stores = omega arith } },
    )

pub overflow_add-i : goal.overflow_add-i
overflow_add-i c =
    let found : First (waiting_of c.loop-i.waiting) c.loop-i.i c.in-Some.v = next_first _ _ _ (sym c.next_from.ensures.next ∙ c.in-Some.is) in
    let found_within : c.in-Some.v < c.args.n = marks_within _ c.loop-i.waiting _ c.loop-i.invariant.2.sized.waiting found.waits in
    omega (arith, found_within)

pub loop-i-smaller : goal.loop-i-smaller
loop-i-smaller c =
    let found : First (waiting_of c.loop-i.waiting) c.loop-i.i c.in-Some.v = next_first _ _ _ (sym c.next_from.ensures.next ∙ c.in-Some.is) in
    omega (arith, found.from)

pub loop-i-preserved : goal.loop-i-preserved
loop-i-preserved c =
    let found : First (waiting_of c.loop-i.waiting) c.loop-i.i c.in-Some.v = next_first _ _ _ (sym c.next_from.ensures.next ∙ c.in-Some.is) in
    let found_within : c.in-Some.v < c.args.n = marks_within _ c.loop-i.waiting _ c.loop-i.invariant.2.sized.waiting found.waits in
    let g = c.args in
    let at = c.loop-i in
    let f = found in (
      λ es o.
          round_next (property g.p) es g.n at.i at.words at.waiting at.t _ (at.invariant.0 es o)
          c.in-Some.v _ at.invariant.2.sized.waiting f (c.handle-t.ensures.by_index g.n at.invariant.2.sized.words es o),
      omega (arith, found_within),
      ran_then at.invariant.2 (c.handle-t.ensures.by_index_2 g.n at.invariant.2.sized.words) (omega arith) (omega arith) (omega (arith, f.from)),
    )

pub returns : goal.returns
returns c =
    let g = c.args in
    let at = c.loop-i in record {
      result_after = λ es o.
          round_ends (property g.p) es g.n at.i at.words at.waiting at.t _ (at.invariant.0 es o) c.loop-i-test.false
          ∙ round_begins (property g.p) es g.n g.words.now g.waiting.now g.tally;
      ran = ran_round g.tally at.invariant.2 (omega (arith, c.requires.fit.few));
    }
