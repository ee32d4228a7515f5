-- `frontier::slices::any` meets its contract. Assumes nothing.
use Rattle.property.proofs.Basics.{ap, ◌∙◌, not, eqb}
use Rattle.frontier.specs.Waiting.{waiting_of}
use Rattle.frontier.proofs.Counts.{any_count}
use Rattle.frontier.proofs.slices.any.Goals as goal

pub returns : goal.returns
returns c =
    ap (λ n. not (eqb n 0)) c.count.ensures ∙ any_count (waiting_of c.args.ws.now)
