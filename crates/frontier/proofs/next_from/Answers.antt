-- `frontier::next_from` meets its contract. Assumes nothing.
use Rattle.property.proofs.Basics.{arith}
use Rattle.frontier.proofs.Laws.{waiting_length}
use Rattle.frontier.proofs.next_from.Goals as goal

pub returns : goal.returns
returns g c =
    record { next = c.next_from.ensures; size = omega (arith, waiting_length c.args.ws.now) }
