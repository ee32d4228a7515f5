-- `writer::put::put_number` meets its contract: what is still to store from here comes to the same. Assumes nothing.
use Rattle.property.proofs.Basics.{◌≡◌, ◌+◌, ◌-◌, ◌≤◌, length, sets}
use Rattle.dimacs.specs.Decimal.{digits}
use Rattle.writer.proofs.Digits.{pad}
use Rattle.writer.proofs.put.put_number.Given as goal

abbrev pub invariant-loop-i : goal.invariant-loop-i
invariant-loop-i l =
    (sets l.out l.at (pad (l.i - l.at) l.w) ≡ sets l.initial.out l.at (digits l.v)) × (l.at ≤ l.i) × (length l.out ≡ length l.initial.out) × (l.end ≡ l.at + length (digits l.v))
