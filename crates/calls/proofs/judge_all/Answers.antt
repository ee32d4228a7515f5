-- `calls::judge_all` meets its contract. Assumes nothing.
use Rattle.property.proofs.Basics.{◌∙◌}
use Rattle.graph.proofs.Verdicts.{then_accept, then_assoc}
use Rattle.graph.proofs.Judging.{lengths_accept, passed_on, then_refused, then_judged, fine_accept}
use Rattle.calls.proofs.judge_all.Goals as goal

pub returns-in_err-judge_size : goal.returns-in_err-judge_size
returns-in_err-judge_size c =
    rw (passed_on _ c.from_residual.ensures.1) (then_refused _ _ _ c.in_err-judge_size.ensures)

pub returns-in_err-judge_lists : goal.returns-in_err-judge_lists
returns-in_err-judge_lists c =
    rw (passed_on _ c.from_residual-in_err-judge_lists.ensures.1)
    (then_judged _ _ _ c.in_ok-judge_size.ensures (then_refused _ _ _ c.in_err-judge_lists.ensures ∙ then_assoc _ _ _))

pub judge_network-requires : goal.judge_network-requires
judge_network-requires c =
    lengths_accept _ _ _ (then_accept _ _ (fine_accept _ c.in_ok-judge_lists.ensures)).0

pub returns : goal.returns
returns c =
    then_judged _ _ _ c.in_ok-judge_size.ensures
    (then_judged _ _ _ c.in_ok-judge_lists.ensures c.judge_network.ensures ∙ then_assoc _ _ _)
