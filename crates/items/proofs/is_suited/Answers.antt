-- `items::is_suited` meets its contract. Assumes nothing.
use Rattle.property.proofs.Basics.{eq-eqb, ne_eqb}
use Rattle.items.proofs.is_suited.Goals as goal

pub returns-then-kind-eq3 : goal.returns-then-kind-eq3
returns-then-kind-eq3 c =
    rw (eq-eqb _ _ c.if-kind-eq3.true) c.is_weight.ensures

pub returns-else-kind-eq3 : goal.returns-else-kind-eq3
returns-else-kind-eq3 c =
    rw (ne_eqb _ _ c.if-kind-eq3.false)
