-- `writer::put::fields_width` meets its contract: the bytes of the numbers below v-index are summed. Assumes nothing.
use Rattle.property.proofs.Basics.{◌≡◌, ◌+◌, ◌*◌, ◌≤◌, length, drop}
use Rattle.dimacs.specs.Lines.{fields_of}
use Rattle.writer.proofs.put.fields_width.Given as goal

abbrev pub invariant-loop-v : goal.invariant-loop-v
invariant-loop-v l =
    (l.sum + length (fields_of (drop l.v-index l.values)) ≡ length (fields_of l.values)) × (l.sum ≤ 21 * l.v-index)
