-- `calls::judge_lists` meets its contract. Assumes nothing.
use Rattle.graph.proofs.Judging.{passed_on, then_refused, then_judged}
use Rattle.calls.proofs.judge_lists.Goals as goal

pub returns-in_err-judge_lengths : goal.returns-in_err-judge_lengths
returns-in_err-judge_lengths c =
    rw (passed_on _ c.from_residual.ensures.1) (then_refused _ _ _ c.in_err-judge_lengths.ensures)

pub returns : goal.returns
returns c =
    then_judged _ _ _ c.in_ok-judge_lengths.ensures c.judge_rows.ensures
