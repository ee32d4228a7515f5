-- `writer::put::put_word` meets its contract: the bytes below i are put. Assumes nothing.
use Rattle.property.proofs.Basics.{◌≡◌, length, paste}
use Rattle.writer.proofs.put.put_word.Given as goal

abbrev pub invariant-loop-i : goal.invariant-loop-i
invariant-loop-i l =
    (l.out ≡ paste l.initial.out l.at l.word l.i) × (length l.out ≡ length l.initial.out)
