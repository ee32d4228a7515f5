-- `query::judge_schedule` meets its contract. Assumes nothing.
use Rattle.property.proofs.Basics.{◌≡◌, drop}
use Rattle.network.specs.Query.{scheduled}
use Rattle.query.proofs.judge_schedule.Given as goal

abbrev pub invariant-loop-i : goal.invariant-loop-i
invariant-loop-i l =
    scheduled l.n l.i (drop l.i l.schedule) ≡ scheduled l.n 0 l.schedule
