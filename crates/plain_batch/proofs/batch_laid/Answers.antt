-- `plain_batch::batch_laid` meets its contract. Assumes nothing.
use Rattle.property.proofs.Basics.{sym, ap, ◌∙◌}
use Rattle.graph.proofs.Judging.{passed_on, fine_accept}
use Rattle.network.specs.Batch.{batch_faults}
use Rattle.plain_batch.proofs.Calling.{call_faulty}
use Rattle.plain_batch.proofs.batch_laid.Goals as goal

pub returns-in_err-judge_batch : goal.returns-in_err-judge_batch
returns-in_err-judge_batch c =
    λ cs l. rw (passed_on _ c.from_residual.ensures.1) (call_faulty _ _ _ _ _ _ _ _ cs _ (c.in_err-judge_batch.ensures ∙ ap (batch_faults _ _ _) (sym l.size)))

pub try_changes-requires : goal.try_changes-requires
try_changes-requires c =
    (c.requires, fine_accept _ c.in_ok-judge_batch.ensures)

pub returns : goal.returns
returns c =
    c.try_changes.ensures
