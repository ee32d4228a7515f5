-- `query::judge_sizes` meets its contract. Assumes nothing.
use Rattle.graph.proofs.Judging.{passed_on, then_refused, then_judged}
use Rattle.query.proofs.judge_sizes.Goals as goal

pub returns-in_err-judge_size : goal.returns-in_err-judge_size
returns-in_err-judge_size c =
    rw (passed_on _ c.from_residual.ensures.1) (then_refused _ _ _ c.in_err-judge_size.ensures)

pub returns : goal.returns
returns c =
    then_judged _ _ _ c.in_ok-judge_size.ensures c.refuse_if.ensures
