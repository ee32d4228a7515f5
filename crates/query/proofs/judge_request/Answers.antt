-- `query::judge_request` meets its contract. Assumes nothing.
use Rattle.property.proofs.Basics.{lt-ltb, le-ltb, arith, sym, ap, ◌∙◌, not, ltb}
use Rattle.graph.proofs.Judging.{if_refused, if_judged}
use Rattle.graph.specs.declared.refusal.Refusal.TheVariants.{Property, Vertex}
use Rattle.property.specs.Property.{is_property}
use Rattle.query.proofs.judge_request.Goals as goal

pub returns-then-not-is_property : goal.returns-then-not-is_property
returns-then-not-is_property c =
    let a = c.args in
    if_refused (not (is_property a.property)) Property _ (ap not (sym c.is_property.ensures ∙ c.if-not-is_property.true))

pub returns-then-source-n : goal.returns-then-source-n
returns-then-source-n c =
    let a = c.args in
    if_judged (not (is_property a.property)) 5 0 _ _ (ap not (sym c.is_property.ensures ∙ c.if-not-is_property.false))
    (if_refused (not (ltb a.source a.n)) (Vertex 0) _ (ap not (le-ltb a.source a.n (omega arith))))

pub returns : goal.returns
returns c =
    let a = c.args in
    if_judged (not (is_property a.property)) 5 0 _ _ (ap not (sym c.is_property.ensures ∙ c.if-not-is_property.false))
    (if_judged (not (ltb a.source a.n)) 6 0 _ _ (ap not (lt-ltb a.source a.n (omega arith))) c.judge_schedule.ensures)
