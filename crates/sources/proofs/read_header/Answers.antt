-- `sources::read_header` meets its contract. Assumes nothing.
use Rattle.property.proofs.Basics.{arith, bind}
use Rattle.dimacs.specs.Sources.{header_from}
use Rattle.sources.specs.Capped.{cap_sources}
use Rattle.scanner.proofs.Marks.{said_fields, one_value}
use Rattle.sources.proofs.Items.{header_read}
use Rattle.sources.proofs.read_header.Goals as goal

pub returns-in_err-k : goal.returns-in_err-k
unfolding bind
returns-in_err-k c =
    rw c.from_residual.ensures (said_fields header_from cap_sources header_read _ c.in_err-k.ensures)

pub returns : goal.returns
unfolding bind header_from
returns c =
    rw (one_value c.in_ok-k.field-0 (omega arith)) at (said_fields header_from cap_sources header_read _ c.in_ok-k.ensures)
