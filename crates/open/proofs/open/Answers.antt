-- `open::open` meets its contract. Assumes nothing.
use Rattle.property.proofs.Basics.{◌*◌, ◌≤◌, length}
use Rattle.graph.proofs.Judging.{passed_on, fine_accept}
use Rattle.network.specs.Network.{row_count}
use Rattle.calls.specs.Code.{Openable}
use Rattle.calls.proofs.Judging.{network_accept}
use Rattle.open.proofs.Opening.{open_refused, open_written}
use Rattle.open.proofs.open.Goals.{In_ok-judge_all}
use Rattle.open.proofs.open.Goals as goal

-- what is known once the network is judged
sound_of : (c : In_ok-judge_all) → let g = c.args in
    Openable g.n g.count g.landmarks.now g.tails.now g.heads.now g.weights.now
    × (row_count g.landmarks.now * g.n ≤ length g.forward.now) × (row_count g.landmarks.now * g.n ≤ length g.backward.now)
sound_of c =
    let g = c.args in
    network_accept g.n g.landmarks.now g.tails.now g.heads.now g.weights.now g.count g.forward.now g.backward.now (fine_accept _ c.in_ok-judge_all.ensures)

pub returns-in_err-judge_all : goal.returns-in_err-judge_all
returns-in_err-judge_all c =
    let g = c.args in
    rw (passed_on _ c.from_residual.ensures.1)
    (open_refused g.n g.landmarks.now g.tails.now g.heads.now g.weights.now g.forward.now g.backward.now g.count _ c.in_err-judge_all.ensures)

pub open_forward-requires : goal.open_forward-requires
open_forward-requires c =
    let s = sound_of (goal.at.open_forward-requires c).In_ok-judge_all in
    record { openable = s.0; n_in_bounds = s.1 }

pub open_backward-requires : goal.open_backward-requires
open_backward-requires c =
    let s = sound_of (goal.at.open_backward-requires c).In_ok-judge_all in
    record { openable = s.0; n_in_bounds = s.2 }

pub returns : goal.returns
returns c =
    let g = c.args in
    open_written g.n g.landmarks.now g.tails.now g.heads.now g.weights.now g.forward.now g.backward.now g.count (fine_accept _ c.in_ok-judge_all.ensures)
    _ _ c.open_forward.ensures c.open_backward.ensures
