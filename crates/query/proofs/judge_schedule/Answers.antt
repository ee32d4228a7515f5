-- `query::judge_schedule` meets its contract. Assumes nothing.
use Rattle.query.proofs.Asking.{schedule_more, schedule_broken, schedule_none}
use Rattle.query.proofs.judge_schedule.Goals as goal

pub returns-then-vertex-n : goal.returns-then-vertex-n
returns-then-vertex-n c =
    schedule_broken c.args.n c.args.schedule.now c.loop-i.i c.loop-i.invariant c.loop-i-test.true c.if-vertex-n.true

pub loop-i-preserved : goal.loop-i-preserved
loop-i-preserved c =
    schedule_more c.args.n c.args.schedule.now c.loop-i.i c.loop-i.invariant c.loop-i-test.true c.if-vertex-n.false

pub returns : goal.returns
returns c =
    schedule_none c.args.n c.args.schedule.now c.loop-i.i c.loop-i.invariant c.loop-i-test.false
