-- `query::finer` meets its contract. Assumes nothing.
use Rattle.property.proofs.Basics.{sym, ◌∙◌}
use Rattle.query.proofs.finer.Goals as goal

pub returns-then-better : goal.returns-then-better
returns-then-better c =
    rw (sym c.better.ensures ∙ c.if-better.true)

pub returns-else-better : goal.returns-else-better
returns-else-better c =
    rw (sym c.better.ensures ∙ c.if-better.false)
