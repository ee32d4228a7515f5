-- `routing::judge_route` meets its contract. Assumes nothing.
use Rattle.property.proofs.Basics.{sym, ap, ◌∙◌, not}
use Rattle.property.specs.Property.{is_property}
use Rattle.graph.specs.Table.{bare_faults}
use Rattle.graph.specs.declared.refusal.Refusal.TheVariants.{Property}
use Rattle.graph.specs.Code.{columns}
use Rattle.graph.proofs.Judging.{as_told, passed_on, then_refused, then_judged, if_refused, if_judged}
use Rattle.answers.specs.Routing.{route_faults}
use Rattle.routing.proofs.judge_route.Goals as goal

pub returns-in_err-judge_bare : goal.returns-in_err-judge_bare
unfolding route_faults
returns-in_err-judge_bare c =
    let a = c.args in
    let bare = bare_faults a.n (columns a.tails.now a.heads.now a.weights.now) a.count in
    rw (passed_on _ c.from_residual.ensures.1) (then_refused _ _ _ (as_told _ _ bare c.in_err-judge_bare.ensures ∙ ap bare c.refuse_if-outputs.ensures))

pub returns-then-not-is_property : goal.returns-then-not-is_property
unfolding route_faults
returns-then-not-is_property c =
    let a = c.args in
    let bare = bare_faults a.n (columns a.tails.now a.heads.now a.weights.now) a.count in
    then_judged _ _ _ (as_told _ _ bare c.in_ok-judge_bare.ensures ∙ ap bare c.refuse_if-outputs.ensures)
    (if_refused (not (is_property a.request.property)) Property _ (ap not (sym c.is_property.ensures) ∙ ap not c.if-not-is_property.true))

pub returns : goal.returns
unfolding route_faults
returns c =
    let a = c.args in
    let bare = bare_faults a.n (columns a.tails.now a.heads.now a.weights.now) a.count in
    then_judged _ _ _ (as_told _ _ bare c.in_ok-judge_bare.ensures ∙ ap bare c.refuse_if-outputs.ensures)
    (if_judged (not (is_property a.request.property)) 5 0 _ _ (ap not (sym c.is_property.ensures) ∙ ap not c.if-not-is_property.false) c.refuse_if.ensures)
