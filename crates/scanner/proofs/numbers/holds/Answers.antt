-- `scanner::numbers::holds` meets its contract. Assumes nothing.
use Rattle.property.proofs.Basics.{arith, sym, drop_of_length-le}
use Rattle.scanner.specs.Capped.{starts}
use Rattle.scanner.proofs.Fields.{starts_at}
use Rattle.scanner.proofs.numbers.holds.Goals as goal

pub returns-then-s-at : goal.returns-then-s-at
returns-then-s-at c =
    unfold starts in rw (drop_of_length-le c.args.s.now c.if-s-at.true)

pub returns : goal.returns
returns c =
    let a = c.args in sym (starts_at a.c a.s.now a.at (omega arith))
