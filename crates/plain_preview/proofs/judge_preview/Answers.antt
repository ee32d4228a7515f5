-- `plain_preview::judge_preview` meets its contract. Assumes nothing.
use Rattle.property.proofs.Basics.{lt-ltb, le-ltb}
use Rattle.graph.specs.declared.refusal.Refusal.TheVariants as refusal
use Rattle.graph.specs.Limits.{max_batch}
use Rattle.graph.proofs.Judging.{passed_on, if_refused, if_judged, then_refused, then_judged}
use Rattle.plain_preview.proofs.judge_preview.Goals as goal

pub returns-then-changes-gt-MAX_BATCH : goal.returns-then-changes-gt-MAX_BATCH
returns-then-changes-gt-MAX_BATCH c =
    if_refused _ refusal.Size _ (lt-ltb max_batch _ c.if-changes-gt-MAX_BATCH.true)

pub returns-in_err-judge_size : goal.returns-in_err-judge_size
returns-in_err-judge_size c =
    rw (passed_on _ c.from_residual.ensures.1) (if_judged _ 1 0 _ _ (le-ltb max_batch _ c.if-changes-gt-MAX_BATCH.false) (then_refused _ _ _ c.in_err-judge_size.ensures))

pub returns : goal.returns
returns c =
    if_judged _ 1 0 _ _ (le-ltb max_batch _ c.if-changes-gt-MAX_BATCH.false) (then_judged _ _ _ c.in_ok-judge_size.ensures c.judge_outputs.ensures)
