-- `frontier::slices::contains` meets its contract. Assumes nothing.
use Rattle.property.proofs.Basics.{arith}
use Rattle.frontier.proofs.Words.{waiting_test}
use Rattle.frontier.proofs.slices.contains.Goals as goal

pub returns : goal.returns
returns c =
    waiting_test c.args.ws.now c.args.i (omega arith)
