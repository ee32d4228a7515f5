-- `run::run_unscheduled` meets its contract: an index is lent for the places, the heads and the weights. Assumes nothing.
use Rattle.property.proofs.Basics.{lit<}
use Rattle.run.proofs.run_unscheduled.Goals as goal

pub settle-requires : goal.settle-requires
settle-requires c =
    let p = c.requires in record { fit = p.0; sized = p.1; low = record { taken = lit< tt; rounds = lit< tt; stores = lit< tt } }

pub returns : goal.returns
returns c =
    record { result_after = c.settle.ensures.result_after; ran = c.settle.ensures.ran }
