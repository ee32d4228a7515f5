-- `frontier::empty` meets its contract. Assumes nothing.
use Rattle.frontier.specs.Waiting.{word_count}
use Rattle.frontier.proofs.Laws.{waiting_zero}
use Rattle.frontier.proofs.empty.Goals as goal

pub returns : goal.returns
returns c =
    waiting_zero word_count
