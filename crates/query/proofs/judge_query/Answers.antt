-- `query::judge_query` meets its contract. Assumes nothing.
use Rattle.property.proofs.Basics.{◌∙◌}
use Rattle.graph.proofs.Verdicts.{then_accept}
use Rattle.graph.proofs.Judging.{lengths_accept, passed_on, then_refused, then_judged, fine_accept}
use Rattle.query.proofs.AskingFaults.{faults_flat}
use Rattle.query.proofs.judge_query.Goals as goal

pub returns-in_err-judge_sizes : goal.returns-in_err-judge_sizes
returns-in_err-judge_sizes c =
    rw (passed_on _ c.from_residual.ensures.1)
    (then_refused _ _ _ c.in_err-judge_sizes.ensures ∙ faults_flat _ _ _ _ _ _)

pub returns-in_err-judge_lists : goal.returns-in_err-judge_lists
returns-in_err-judge_lists c =
    rw (passed_on _ c.from_residual-in_err-judge_lists.ensures.1)
    (then_judged _ _ _ c.in_ok-judge_sizes.ensures (then_refused _ _ _ c.in_err-judge_lists.ensures) ∙ faults_flat _ _ _ _ _ _)

pub returns-in_err-judge_outputs : goal.returns-in_err-judge_outputs
returns-in_err-judge_outputs c =
    rw (passed_on _ c.from_residual-in_err-judge_outputs.ensures.1)
    (then_judged _ _ _ c.in_ok-judge_sizes.ensures
    (then_judged _ _ _ c.in_ok-judge_lists.ensures (then_refused _ _ _ c.in_err-judge_outputs.ensures)) ∙ faults_flat _ _ _ _ _ _)

pub judge_network-requires : goal.judge_network-requires
judge_network-requires c =
    lengths_accept _ _ _ (then_accept _ _ (fine_accept _ c.in_ok-judge_lists.ensures)).0

pub returns-in_err-judge_network : goal.returns-in_err-judge_network
returns-in_err-judge_network c =
    rw (passed_on _ c.from_residual-in_err-judge_network.ensures.1)
    (then_judged _ _ _ c.in_ok-judge_sizes.ensures
    (then_judged _ _ _ c.in_ok-judge_lists.ensures
    (then_judged _ _ _ c.in_ok-judge_outputs.ensures (then_refused _ _ _ c.in_err-judge_network.ensures))) ∙ faults_flat _ _ _ _ _ _)

pub returns : goal.returns
returns c =
    then_judged _ _ _ c.in_ok-judge_sizes.ensures
    (then_judged _ _ _ c.in_ok-judge_lists.ensures
    (then_judged _ _ _ c.in_ok-judge_outputs.ensures
    (then_judged _ _ _ c.in_ok-judge_network.ensures c.judge_request.ensures))) ∙ faults_flat _ _ _ _ _ _
