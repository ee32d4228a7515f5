-- `plain_batch::judge_batch` meets its contract. Assumes nothing.
use Rattle.graph.specs.Code.{told}
use Rattle.plain_batch.proofs.Calling.{faults_long, faults_rest}
use Rattle.plain_batch.proofs.judge_batch.Goals as goal

pub returns-then-size-gt-MAX_BATCH : goal.returns-then-size-gt-MAX_BATCH
unfolding told
returns-then-size-gt-MAX_BATCH c =
    faults_long _ _ _ _ c.if-size-gt-MAX_BATCH.true

pub returns : goal.returns
returns c =
    faults_rest _ _ _ _ c.if-size-gt-MAX_BATCH.false c.judge_all.ensures
