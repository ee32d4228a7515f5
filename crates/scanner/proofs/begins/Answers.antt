-- `scanner::begins` meets its contract: what is left of the mark, from here on in the line, comes to the same. Assumes nothing.
use Rattle.property.proofs.Basics.{arith, sym, ◌∙◌}
use Rattle.scanner.proofs.Fields.{mark_more, mark_other, mark_done}
use Rattle.scanner.proofs.begins.Goals as goal

pub returns-then-not-holds : goal.returns-then-not-holds
returns-then-not-holds c =
    let a = c.args in
    sym (mark_other a.mark.now a.line.now c.loop-i.i (omega arith) (sym c.holds.ensures ∙ c.if-not-holds.true)) ∙ c.loop-i.invariant

pub loop-i-preserved : goal.loop-i-preserved
loop-i-preserved c =
    let a = c.args in
    sym (mark_more a.mark.now a.line.now c.loop-i.i (omega arith) (sym c.holds.ensures ∙ c.if-not-holds.false)) ∙ c.loop-i.invariant

pub returns : goal.returns
returns c =
    let a = c.args in sym (mark_done a.mark.now a.line.now c.loop-i.i (omega arith)) ∙ c.loop-i.invariant
