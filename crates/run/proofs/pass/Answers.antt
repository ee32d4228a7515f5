-- `run::pass` meets its contract. The loop's invariant: the entries that are left, from the state now, come to what the schedule comes to from the
-- state at entry. Assumes nothing.
use Rattle.property.proofs.Basics.{refl, arith, drop_of_length-le}
use Rattle.property.specs.Property.{property}
use Rattle.run.specs.Run as spec
use Rattle.graph.proofs.Lists.{fold_turn, fold_done}
use Rattle.run.proofs.Folds.{drop_more}
use Rattle.run.proofs.States.{ran_none, ran_then, ran_within}
use Rattle.run.proofs.pass.Goals as goal

pub loop-entry-init : goal.loop-entry-init
unfolding spec.pass
loop-entry-init c =
    ((λ es o. refl), omega arith, ran_none c.requires.ready.sized c.args.tally 0 0 0)

pub overflow_cast-u : goal.overflow_cast-u
overflow_cast-u c =
    omega (arith, c.type_inv.schedule c.loop-entry.entry-index)

pub take-t-requires : goal.take-t-requires
take-t-requires c =
    let f = c.requires.ready in
    let v = c.requires.scheduled in
    let r = c.loop-entry.invariant.2 in record { u_lt_n = v.inside c.loop-entry.entry-index (omega arith); ready = record { fit = f.fit; sized = r.sized; low = record { taken = omega (arith, v.few); rounds = omega arith; stores = omega (arith, v.few) } } }

pub loop-entry-preserved : goal.loop-entry-preserved
loop-entry-preserved c =
    let g = c.args in
    let at = c.loop-entry in (
      λ es o.
          fold_turn (spec.take_entry (property g.p) es) _ (drop_more g.schedule.now at.entry-index c.loop-entry-test.true) (c.take-t.ensures.result_after es o) (at.invariant.0 es o),
      omega arith,
      ran_then at.invariant.2 c.take-t.ensures.ran (omega arith) (omega arith) (omega arith),
    )

pub returns : goal.returns
returns c =
    let g = c.args in record { result_after = λ es o. fold_done (spec.take_entry (property g.p) es) (drop_of_length-le g.schedule.now c.loop-entry-test.false) (c.loop-entry.invariant.0 es o); ran = ran_within c.loop-entry.invariant.2 (omega arith) (omega arith) (omega arith) }
