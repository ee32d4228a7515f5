-- `listing::prepare::read_list` meets its contract. Assumes nothing.
use Rattle.property.proofs.Basics.{arith}
use Rattle.listing.proofs.Reading.{sources_long, sources_read_lem}
use Rattle.listing.proofs.prepare.read_list.Goals as goal

pub returns-then-ss-gt-MAX_FILE : goal.returns-then-ss-gt-MAX_FILE
returns-then-ss-gt-MAX_FILE c =
    sources_long c.args.n c.args.ss.now (omega arith)

pub returns : goal.returns
returns c =
    sources_read_lem c.args.n c.args.ss.now c.args.list.now _ c.requires.0 c.requires.1 (omega arith) _ c.read_sources.ensures
