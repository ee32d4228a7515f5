-- `scanner::numbers::is_digit` meets its contract. Assumes nothing.
use Rattle.property.proofs.Basics.{le-leb, lt-leb}
use Rattle.dimacs.specs.Decimal.{is_digit}
use Rattle.scanner.proofs.numbers.is_digit.Goals as goal

pub returns-then-b-lt48 : goal.returns-then-b-lt48
returns-then-b-lt48 c =
    unfold is_digit in simp (lt-leb 48 c.args.b c.if-b-lt48.true)

pub returns : goal.returns
returns c =
    unfold is_digit in simp (le-leb 48 c.args.b c.if-b-lt48.false)
