-- `sources::read_source` meets its contract. Assumes nothing.
use Rattle.property.proofs.Basics.{arith, ◌∙◌, bind}
use Rattle.dimacs.specs.Sources.{source_from}
use Rattle.sources.specs.Capped.{cap_sources}
use Rattle.scanner.proofs.Marks.{said_fields}
use Rattle.sources.proofs.Items.{source_read, source_said, source_zero, source_vertex}
use Rattle.sources.proofs.read_source.Goals as goal

pub returns-in_err-v : goal.returns-in_err-v
unfolding bind
returns-in_err-v c =
    rw c.from_residual.ensures (said_fields source_from cap_sources source_read _ c.in_err-v.ensures)

pub returns-then-v-eq0 : goal.returns-then-v-eq0
returns-then-v-eq0 c =
    source_zero _ c.if-v-eq0.true ∙ source_said c.in_ok-v.field-0 _ (omega arith) c.in_ok-v.ensures

pub returns : goal.returns
returns c =
    source_vertex _ _ (omega arith) ∙ source_said c.in_ok-v.field-0 _ (omega arith) c.in_ok-v.ensures
