-- `settled_check::find_relaxable` meets its contract. Assumes nothing.
use Rattle.graph.proofs.Judging.{passed_on, fine_accept}
use Rattle.network.specs.Settled.{settled_call}
use Rattle.settled_check.proofs.Checking.{checking_refused, checking_accepted}
use Rattle.settled_check.proofs.find_relaxable.Goals as goal

pub returns-in_err-judge_all : goal.returns-in_err-judge_all
unfolding settled_call
returns-in_err-judge_all c =
    rw (passed_on _ c.from_residual.ensures.1) (checking_refused _ _ _ c.in_err-judge_all.ensures)

pub first_spot-requires : goal.first_spot-requires
first_spot-requires c =
    fine_accept _ c.in_ok-judge_all.ensures

pub returns : goal.returns
unfolding settled_call
returns c =
    checking_accepted _ _ _ c.in_ok-judge_all.ensures c.first_spot.ensures
