-- `graph::rules::rank_of` meets its contract. Assumes nothing.
use Rattle.graph.proofs.Ranks.{rank_is}
use Rattle.graph.proofs.rules.rank_of.Goals as goal

pub returns : goal.returns
returns c =
    rank_is _ _ _
