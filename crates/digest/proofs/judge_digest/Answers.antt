-- `digest::judge_digest` meets its contract. Assumes nothing.
use Rattle.property.proofs.Basics.{◌∙◌, ap, Bool, not}
use Rattle.graph.specs.Refusal.{refuse_if}
use Rattle.graph.proofs.Judging.{passed_on, then_refused, then_judged}
use Rattle.answers.specs.Digest.{digest_faults}
use Rattle.digest.proofs.judge_digest.Goals as goal

pub returns-in_err-judge_size : goal.returns-in_err-judge_size
unfolding digest_faults
returns-in_err-judge_size c =
    rw (passed_on _ c.from_residual.ensures.1) (then_refused _ _ _ c.in_err-judge_size.ensures)

pub returns-in_err-judge_outputs : goal.returns-in_err-judge_outputs
unfolding digest_faults
returns-in_err-judge_outputs c =
    rw (passed_on _ c.from_residual-in_err-judge_outputs.ensures.1)
    (then_judged _ _ _ c.in_ok-judge_size.ensures (then_refused _ _ _ c.in_err-judge_outputs.ensures))

pub returns : goal.returns
unfolding digest_faults
returns c =
    then_judged _ _ _ c.in_ok-judge_size.ensures
    (then_judged _ _ _ c.in_ok-judge_outputs.ensures
    (c.refuse_if.ensures ∙ ap (λ (b : Bool). refuse_if (not b) 5 0) c.is_property.ensures))
