-- `items::is_taken` meets its contract. Assumes nothing.
use Rattle.property.proofs.Basics.{ap, ◌∙◌, eq-eqb, ne_eqb}
use Rattle.std.specs.Option.{is_some}
use Rattle.graph.specs.Table.{table_order}
use Rattle.graph.proofs.Seek.{some_has}
use Rattle.items.proofs.is_taken.Goals as goal

pub returns-then-w-old : goal.returns-then-w-old
returns-then-w-old c =
    rw (eq-eqb _ _ c.if-w-old.true)

pub returns : goal.returns
returns c =
    rw (ne_eqb _ _ c.if-w-old.false) (c.is_some.ensures ∙ ap is_some c.find.ensures ∙ some_has table_order _ _)
