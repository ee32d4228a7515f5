-- `frontier::slices::insert` meets its contract. Assumes nothing.
use Rattle.property.proofs.Basics.{arith}
use Rattle.frontier.proofs.Words.{waiting_insert}
use Rattle.frontier.proofs.slices.insert.Goals as goal

pub returns : goal.returns
returns c =
    waiting_insert c.args.ws.now c.args.i (omega arith)
