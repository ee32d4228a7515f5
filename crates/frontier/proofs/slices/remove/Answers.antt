-- `frontier::slices::remove` meets its contract. Assumes nothing.
use Rattle.property.proofs.Basics.{arith}
use Rattle.frontier.proofs.Words.{waiting_remove}
use Rattle.frontier.proofs.slices.remove.Goals as goal

pub returns : goal.returns
returns c =
    waiting_remove c.args.ws.now c.args.i (omega arith)
