-- `scanner::numbers::push` meets its contract. Assumes nothing.
use Rattle.property.proofs.Basics.{arith}
use Rattle.dimacs.proofs.Digits.{is_digit_lem}
use Rattle.scanner.proofs.numbers.push.Goals as goal

pub overflow_sub-x : goal.overflow_sub-x
overflow_sub-x c =
    omega (arith, is_digit_lem c.args.b c.requires.1)
