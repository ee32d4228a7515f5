-- `digest::is_loser` meets its contract. Assumes nothing.
use Rattle.property.proofs.Basics.{ap, ◌∙◌, eq-eqb, ne_eqb}
use mir.Facts.{to_z-of_z}
use Rattle.property.specs.Property.{property}
use Rattle.answers.specs.Digest.{worsens}
use Rattle.digest.proofs.is_loser.Goals as goal

pub returns-then-e-eq2 : goal.returns-then-e-eq2
returns-then-e-eq2 c =
    rw (eq-eqb _ 2 c.if-e-eq2.true)

pub returns-then-e-eq3 : goal.returns-then-e-eq3
returns-then-e-eq3 c =
    rw (ne_eqb _ 2 c.if-e-eq2.false, eq-eqb _ 3 c.if-e-eq3.true) (c.worsens.ensures ∙ ap (worsens (property c.args.p)) (to_z-of_z c.ranges.d))

pub returns-else-e-eq3 : goal.returns-else-e-eq3
returns-else-e-eq3 c =
    rw (ne_eqb _ 2 c.if-e-eq2.false, ne_eqb _ 3 c.if-e-eq3.false)
