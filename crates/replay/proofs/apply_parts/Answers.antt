-- `replay::apply_parts` meets its contract: what is left of the batches gives, from here, the outcome of all. Assumes nothing.
use Rattle.property.proofs.Basics.{arith, ◌∙◌}
use Rattle.items.specs.Code.{changes_of}
use Rattle.replay.proofs.Replaying.{batches_more, batches_none, carried_done, carried_refused, carried_none}
use Rattle.replay.proofs.apply_parts.Goals.{in-Ok, in_default}
use Rattle.replay.proofs.apply_parts.Goals as goal

pub loop-end-preserved : goal.loop-end-preserved
loop-end-preserved c =
    let g = c.args in
    let d = batches_more c.loop-end.from g.ends.now c.loop-end.end-index (changes_of g.changes.now) c.loop-end-test.true in
    let o = c.batch_part-applied.ensures in
    let k = c.batch_part-applied.auto in (
      elim c.match-applied.branch [
        | in-Ok w ↦ rw w.from-is (carried_done _ _ _ _ _ _ _ d c.loop-end.invariant.0 _ _ _ _ _ _ _ w.in-Ok.is o _ _ w.present-is w.accepted-is)
        | in_default w ↦ rw w.from-is (carried_refused _ _ _ _ _ _ _ d c.loop-end.invariant.0 _ _ _ _ _ _ _ w.in_default.is o _ _ w.present-is w.accepted-is)
      ],
      elim c.match-applied.branch [
        | in-Ok w ↦ omega (arith, w.accepted-is)
        | in_default w ↦ omega (arith, w.accepted-is)
      ],
      omega arith,
      k.tails ∙ c.loop-end.invariant.3,
      k.heads ∙ c.loop-end.invariant.4,
      k.weights ∙ c.loop-end.invariant.5,
      k.forward ∙ c.loop-end.invariant.6,
      k.backward ∙ c.loop-end.invariant.7,
    )

pub returns : goal.returns
returns c =
    let a = c.args in
    carried_none _ _ _ _ _ _ _ _ _ _ (batches_none c.loop-end.from a.ends.now c.loop-end.end-index (changes_of a.changes.now) (omega (arith, c.loop-end-test.false))) c.loop-end.invariant.0
