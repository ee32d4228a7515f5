-- `graph::rules::is_next` meets its contract. Assumes nothing.
use Rattle.property.proofs.Basics.{refl}
use Rattle.graph.proofs.rules.is_next.Goals as goal

pub returns : goal.returns
returns c =
    refl
