-- `run::round` meets its contract: each arm is the property of its number, over lists of its form. Assumes nothing.
use Rattle.property.proofs.Basics.{◌≡◌, Bool, true, false}
use Rattle.property.specs.Property.{property}
use Rattle.property.proofs.Instances.{property_rest}
use Rattle.run.specs.Code.{Ready}
use Rattle.run.proofs.round.Goals as goal

pub round_of-requires : goal.round_of-requires
round_of-requires c =
    let asked : (b : Bool) → c.args.packed ≡ b
    → let g = c.args in Ready 38 b g.n g.firsts.now g.heads.now g.weights.now g.words.now g.waiting.now g.tally = λ b e. rw e at c.requires in
    asked true c.if-packed.true

pub round_of-requires-else-packed : goal.round_of-requires-else-packed
round_of-requires-else-packed c =
    let asked : (b : Bool) → c.args.packed ≡ b
    → let g = c.args in Ready 38 b g.n g.firsts.now g.heads.now g.weights.now g.words.now g.waiting.now g.tally = λ b e. rw e at c.requires in
    asked false c.if-packed.false

pub round_of-requires-then-packed-2 : goal.round_of-requires-then-packed-2
round_of-requires-then-packed-2 c =
    let asked : (b : Bool) → c.args.packed ≡ b
    → let g = c.args in Ready 38 b g.n g.firsts.now g.heads.now g.weights.now g.words.now g.waiting.now g.tally = λ b e. rw e at c.requires in
    asked true c.if-packed-2.true

pub round_of-requires-else-packed-2 : goal.round_of-requires-else-packed-2
round_of-requires-else-packed-2 c =
    let asked : (b : Bool) → c.args.packed ≡ b
    → let g = c.args in Ready 38 b g.n g.firsts.now g.heads.now g.weights.now g.words.now g.waiting.now g.tally = λ b e. rw e at c.requires in
    asked false c.if-packed-2.false

pub round_of-requires-then-packed-3 : goal.round_of-requires-then-packed-3
round_of-requires-then-packed-3 c =
    let asked : (b : Bool) → c.args.packed ≡ b
    → let g = c.args in Ready 38 b g.n g.firsts.now g.heads.now g.weights.now g.words.now g.waiting.now g.tally = λ b e. rw e at c.requires in
    asked true c.if-packed-3.true

pub round_of-requires-else-packed-3 : goal.round_of-requires-else-packed-3
round_of-requires-else-packed-3 c =
    let asked : (b : Bool) → c.args.packed ≡ b
    → let g = c.args in Ready 38 b g.n g.firsts.now g.heads.now g.weights.now g.words.now g.waiting.now g.tally = λ b e. rw e at c.requires in
    asked false c.if-packed-3.false

pub round_of-requires-then-packed-4 : goal.round_of-requires-then-packed-4
round_of-requires-then-packed-4 c =
    let asked : (b : Bool) → c.args.packed ≡ b
    → let g = c.args in Ready 38 b g.n g.firsts.now g.heads.now g.weights.now g.words.now g.waiting.now g.tally = λ b e. rw e at c.requires in
    asked true c.if-packed-4.true

pub round_of-requires-else-packed-4 : goal.round_of-requires-else-packed-4
round_of-requires-else-packed-4 c =
    let asked : (b : Bool) → c.args.packed ≡ b
    → let g = c.args in Ready 38 b g.n g.firsts.now g.heads.now g.weights.now g.words.now g.waiting.now g.tally = λ b e. rw e at c.requires in
    asked false c.if-packed-4.false

pub round_of-requires-then-packed-5 : goal.round_of-requires-then-packed-5
round_of-requires-then-packed-5 c =
    let asked : (b : Bool) → c.args.packed ≡ b
    → let g = c.args in Ready 38 b g.n g.firsts.now g.heads.now g.weights.now g.words.now g.waiting.now g.tally = λ b e. rw e at c.requires in
    asked true c.if-packed-5.true

pub round_of-requires-else-packed-5 : goal.round_of-requires-else-packed-5
round_of-requires-else-packed-5 c =
    let asked : (b : Bool) → c.args.packed ≡ b
    → let g = c.args in Ready 38 b g.n g.firsts.now g.heads.now g.weights.now g.words.now g.waiting.now g.tally = λ b e. rw e at c.requires in
    asked false c.if-packed-5.false

pub returns-then-packed : goal.returns-then-packed
returns-then-packed c =
    record { result_after = rw (c.in-1.is, c.if-packed.true) c.round_of.ensures.result_after; ran = c.round_of.ensures.ran }

pub returns-else-packed : goal.returns-else-packed
returns-else-packed c =
    record { result_after = rw (c.in-1.is, c.if-packed.false) c.round_of-else-packed.ensures.result_after; ran = c.round_of-else-packed.ensures.ran }

pub returns-then-packed-2 : goal.returns-then-packed-2
returns-then-packed-2 c =
    record { result_after = rw (c.in-2.is, c.if-packed-2.true) c.round_of-then-packed-2.ensures.result_after; ran = c.round_of-then-packed-2.ensures.ran }

pub returns-else-packed-2 : goal.returns-else-packed-2
returns-else-packed-2 c =
    record { result_after = rw (c.in-2.is, c.if-packed-2.false) c.round_of-else-packed-2.ensures.result_after; ran = c.round_of-else-packed-2.ensures.ran }

pub returns-then-packed-3 : goal.returns-then-packed-3
returns-then-packed-3 c =
    record { result_after = rw (c.in-3.is, c.if-packed-3.true) c.round_of-then-packed-3.ensures.result_after; ran = c.round_of-then-packed-3.ensures.ran }

pub returns-else-packed-3 : goal.returns-else-packed-3
returns-else-packed-3 c =
    record { result_after = rw (c.in-3.is, c.if-packed-3.false) c.round_of-else-packed-3.ensures.result_after; ran = c.round_of-else-packed-3.ensures.ran }

pub returns-then-packed-4 : goal.returns-then-packed-4
returns-then-packed-4 c =
    record { result_after = rw (c.in-4.is, c.if-packed-4.true) c.round_of-then-packed-4.ensures.result_after; ran = c.round_of-then-packed-4.ensures.ran }

pub returns-else-packed-4 : goal.returns-else-packed-4
returns-else-packed-4 c =
    record { result_after = rw (c.in-4.is, c.if-packed-4.false) c.round_of-else-packed-4.ensures.result_after; ran = c.round_of-else-packed-4.ensures.ran }

pub returns-then-packed-5 : goal.returns-then-packed-5
unfolding property
returns-then-packed-5 c =
    record { result_after = rw (property_rest _ c.in_default.in_default-own.rest, c.if-packed-5.true) c.round_of-then-packed-5.ensures.result_after; ran = c.round_of-then-packed-5.ensures.ran }

pub returns-else-packed-5 : goal.returns-else-packed-5
unfolding property
returns-else-packed-5 c =
    record { result_after = rw (property_rest _ c.in_default.in_default-own.rest, c.if-packed-5.false) c.round_of-else-packed-5.ensures.result_after; ran = c.round_of-else-packed-5.ensures.ran }
