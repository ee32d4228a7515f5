-- `replay::replay` meets its contract. Assumes nothing.
use Rattle.replay.proofs.Replaying.{replay_refused, replay_done, replay_ends}
use Rattle.replay.proofs.replay.Goals as goal

pub returns-in-Err : goal.returns-in-Err
returns-in-Err c =
    let e = replay_refused _ _ _ _ _ _ _ _ _ _ (rw c.in-Err.is at c.open-opened.ensures) in record { backward_after = e; at_exit = replay_ends _ _ _ _ _ _ _ _ _ _ e }

pub returns-in-Ok : goal.returns-in-Ok
returns-in-Ok c =
    let e = replay_done _ _ _ _ _ _ _ _ _ (rw c.in-Ok.is at c.open-opened.ensures) c.apply_parts.ensures in record { backward_after = e; at_exit = replay_ends _ _ _ _ _ _ _ _ _ _ e }
