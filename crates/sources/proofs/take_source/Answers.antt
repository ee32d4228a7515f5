-- `sources::take_source` meets its contract. Assumes nothing.
use Rattle.property.proofs.Basics.{arith, ◌≤◌, ◌<◌, length, length-set, lt-ltb, le-ltb}
use Rattle.dimacs.specs.Sources.{act}
use Rattle.sources.specs.Code.{state_of, step_of}
use Rattle.sources.proofs.Steps.{held_inside, act_source, source_next}
use Rattle.sources.proofs.take_source.Goals as goal

pub returns-in_default : goal.returns-in_default
returns-in_default c =
    unfold step_of state_of act in record { result_after = rw c.in_default.is; keeps = tt }

pub returns-then-k-held : goal.returns-then-k-held
returns-then-k-held c =
    unfold step_of in record { result_after = rw (act_source c.in-Within.is c.requires, le-ltb _ _ c.if-k-held.true); keeps = tt }

pub returns-then-n-v : goal.returns-then-n-v
unfolding step_of
returns-then-n-v c =
    let a = c.args in
    let m : a.n ≤ a.v = omega arith in record { result_after = rw (act_source c.in-Within.is c.requires, lt-ltb _ _ c.if-k-held.false, le-ltb a.v a.n m); keeps = tt }

pub bounds-list-held : goal.bounds-list-held
bounds-list-held c =
    let inside : (c.in-Within.held < length c.args.list.now) = let i = held_inside _ c.requires c.in-Within.is in
    let r = c.requires.room in
    omega arith in
    inside

pub returns : goal.returns
unfolding step_of
returns c =
    let inside : (c.in-Within.held < length c.args.list.now) = let i = held_inside _ c.requires c.in-Within.is in
    let r = c.requires.room in
    omega arith in
    let l = c.if-k-held.false in
    let i = held_inside _ c.requires c.in-Within.is in
    let r = c.requires.room in record { result_after = source_next c.in-Within.is c.requires _ _ l (omega arith); keeps = record { room = simp length-set r; inside = (i.0, omega arith) } }
