-- `scanner::numbers::read_field` meets its contract. Assumes nothing.
use Rattle.property.proofs.Basics.{arith, sym, ◌∙◌, [], bind, ◌<◌, length}
use Rattle.dimacs.specs.Read.{after}
use Rattle.scanner.specs.Capped.{cap_number, field}
use Rattle.scanner.proofs.Fields.{after_other, after_one, starts_inside}
use Rattle.scanner.proofs.numbers.read_field.Goals as goal

pub returns-then-not-holds : goal.returns-then-not-holds
returns-then-not-holds c =
    unfold field bind cap_number in (rw (after_other 32 [] _ (sym c.holds.ensures ∙ c.if-not-holds.true)), omega arith)

pub overflow_add-at : goal.overflow_add-at
overflow_add-at c =
    let inside : c.args.at < length c.args.s.now = starts_inside 32 _ _ (sym c.holds.ensures ∙ c.if-not-holds.false) in
    omega (arith, inside)

pub read_number-requires : goal.read_number-requires
read_number-requires c =
    let inside : c.args.at < length c.args.s.now = starts_inside 32 _ _ (sym c.holds.ensures ∙ c.if-not-holds.false) in
    omega (arith, inside)

pub returns : goal.returns
unfolding field bind after
returns c =
    let a = c.args in
    (rw (after_one 32 [] a.s.now a.at (sym c.holds.ensures ∙ c.if-not-holds.false)) c.read_number.ensures.0, c.read_number.ensures.1)
