-- `calls::judge_network` meets its contract. Assumes nothing.
use Rattle.graph.proofs.Judging.{passed_on, then_refused, then_judged}
use Rattle.calls.proofs.judge_network.Goals as goal

pub returns-in_err-judge_landmarks : goal.returns-in_err-judge_landmarks
returns-in_err-judge_landmarks c =
    rw (passed_on _ c.from_residual.ensures.1) (then_refused _ _ _ c.in_err-judge_landmarks.ensures)

pub returns : goal.returns
returns c =
    then_judged _ _ _ c.in_ok-judge_landmarks.ensures c.judge_table.ensures
