-- `writer::put::put_fields` meets its contract: the numbers from v-index on are still to be put. Assumes nothing.
use Rattle.property.proofs.Basics.{drop}
use Rattle.dimacs.specs.Lines.{fields_of}
use Rattle.writer.proofs.Laid.{Pending}
use Rattle.writer.proofs.put.put_fields.Given as goal

abbrev pub invariant-loop-v : goal.invariant-loop-v
invariant-loop-v l =
    Pending (fields_of l.values) l.at l.initial.out (fields_of (drop l.v-index l.values)) l.end l.out
