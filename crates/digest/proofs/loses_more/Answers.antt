-- `digest::loses_more` meets its contract. Assumes nothing.
use Rattle.property.proofs.Basics.{true, false, eq-eqb, ne_eqb}
use Rattle.digest.proofs.Choosing.{chosen, less}
use Rattle.digest.proofs.loses_more.Goals as goal

pub returns-then-f-eq2 : goal.returns-then-f-eq2
returns-then-f-eq2 c =
    rw (eq-eqb _ 2 c.if-f-eq2.true)

pub returns-then-e-eq2 : goal.returns-then-e-eq2
returns-then-e-eq2 c =
    rw (ne_eqb _ 2 c.if-f-eq2.false, eq-eqb _ 2 c.if-e-eq2.true)

pub returns-then-better : goal.returns-then-better
returns-then-better c =
    rw (ne_eqb _ 2 c.if-f-eq2.false, ne_eqb _ 2 c.if-e-eq2.false) (chosen true _ _ c.better.ensures c.if-better.true (less c.ranges.d c.ranges.g))

pub returns-else-better : goal.returns-else-better
returns-else-better c =
    rw (ne_eqb _ 2 c.if-f-eq2.false, ne_eqb _ 2 c.if-e-eq2.false) (chosen false _ _ c.better.ensures c.if-better.false (less c.ranges.g c.ranges.d))
