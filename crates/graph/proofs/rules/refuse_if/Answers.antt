-- `graph::rules::refuse_if` meets its contract. Assumes nothing.
use Rattle.graph.specs.Refusal.{refuse_if}
use Rattle.graph.specs.Code.{told}
use Rattle.graph.proofs.rules.refuse_if.Goals as goal

pub returns-then-test : goal.returns-then-test
unfolding told refuse_if
returns-then-test c =
    rw c.if-test.true

pub returns-else-test : goal.returns-else-test
unfolding told refuse_if
returns-else-test c =
    rw c.if-test.false
