-- `scanner::numbers::read_number` meets its contract: each way out is a law of `number`. Assumes nothing.
use Rattle.property.proofs.Basics.{arith, sym, ap, ◌∙◌, List, some, ℕ, add-one, drop_of_length-le, drop-cons, eq-eqb, ne_eqb}
use Rattle.dimacs.proofs.Digits.{is_digit_lem}
use Rattle.dimacs.specs.Decimal.{number}
use Rattle.scanner.specs.Capped.{cap_number, cap_scan}
use Rattle.scanner.proofs.numbers.read_number.Goals as goal

pub returns-then-s-at : goal.returns-then-s-at
returns-then-s-at c =
    (unfold cap_number number in rw (drop_of_length-le c.args.s.now c.if-s-at.true), omega arith)

pub returns-then-b-eq48 : goal.returns-then-b-eq48
returns-then-b-eq48 c =
    unfold cap_number number in let a = c.args in (rw (drop-cons a.s.now a.at 0 (omega arith), eq-eqb _ 48 c.if-b-eq48.true, add-one), omega arith)

pub returns-then-not-is_digit : goal.returns-then-not-is_digit
unfolding cap_number number
returns-then-not-is_digit c =
    let a = c.args in
    (rw (drop-cons a.s.now a.at 0 (omega arith), ne_eqb _ 48 c.if-b-eq48.false, sym c.is_digit.ensures ∙ c.if-not-is_digit.true), omega arith)

pub overflow_cast-b : goal.overflow_cast-b
overflow_cast-b c =
    omega (arith, c.type_inv.s c.args.at)

pub overflow_sub-b : goal.overflow_sub-b
overflow_sub-b c =
    omega (arith, is_digit_lem _ (sym c.is_digit.ensures ∙ c.if-not-is_digit.false))

pub scan-requires : goal.scan-requires
scan-requires c =
    omega (arith, is_digit_lem _ (sym c.is_digit.ensures ∙ c.if-not-is_digit.false))

pub returns : goal.returns
unfolding cap_number cap_scan number
returns c =
    let a = c.args in (
      rw (drop-cons a.s.now a.at 0 (omega arith), ne_eqb _ 48 c.if-b-eq48.false, sym c.is_digit.ensures ∙ c.if-not-is_digit.false)
          (ap (λ (q : ℕ × List ℕ). some q) (rw add-one at c.scan.ensures.0)),
      c.scan.ensures.1,
    )
