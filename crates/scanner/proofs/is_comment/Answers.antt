-- `scanner::is_comment` meets its contract. Assumes nothing.
use Rattle.property.proofs.Basics.{◌∙◌, drop_of_length-le, drop-cons}
use Rattle.scanner.specs.Capped.{starts, commented}
use Rattle.scanner.proofs.is_comment.Goals as goal

pub returns-then-line-le1 : goal.returns-then-line-le1
returns-then-line-le1 c =
    unfold commented in rw (drop_of_length-le c.args.line.now c.if-line-le1.true)

pub returns : goal.returns
returns c =
    c.holds.ensures ∙ (unfold commented starts in rw (drop-cons c.args.line.now 1 0 c.if-line-le1.false))
