-- `lookup::row_number` meets its contract: one refusal after the other. Assumes nothing.
use Rattle.property.proofs.Basics.{sym, ap, ◌∙◌, not}
use Rattle.graph.proofs.Judging.{passed_on, then_refused, then_judged, if_refused, if_judged}
use Rattle.graph.specs.declared.refusal.Refusal.TheVariants.{Landmarks}
use Rattle.lookup.proofs.Showing.{number_told}
use Rattle.lookup.proofs.row_number.Goals as goal

pub returns-in_err-judge_size : goal.returns-in_err-judge_size
returns-in_err-judge_size c =
    number_told _ _ _ _ _ _ _ _
    (rw (passed_on _ c.from_residual.ensures.1) (then_refused _ _ _ c.in_err-judge_size.ensures))

pub returns-in_err-judge_rows : goal.returns-in_err-judge_rows
returns-in_err-judge_rows c =
    number_told _ _ _ _ _ _ _ _
    (rw (passed_on _ c.from_residual-in_err-judge_rows.ensures.1)
    (then_judged _ _ _ c.in_ok-judge_size.ensures (then_refused _ _ _ c.in_err-judge_rows.ensures)))

pub returns-in_err-judge_landmarks : goal.returns-in_err-judge_landmarks
returns-in_err-judge_landmarks c =
    number_told _ _ _ _ _ _ _ _
    (rw (passed_on _ c.from_residual-in_err-judge_landmarks.ensures.1)
    (then_judged _ _ _ c.in_ok-judge_size.ensures
    (then_judged _ _ _ c.in_ok-judge_rows.ensures (then_refused _ _ _ c.in_err-judge_landmarks.ensures))))

pub returns-then-not-is_in : goal.returns-then-not-is_in
returns-then-not-is_in c =
    number_told _ _ _ _ _ _ _ _
    (then_judged _ _ _ c.in_ok-judge_size.ensures
    (then_judged _ _ _ c.in_ok-judge_rows.ensures
    (then_judged _ _ _ c.in_ok-judge_landmarks.ensures
    (if_refused _ Landmarks _ (sym (ap not c.is_in.ensures) ∙ ap not c.if-not-is_in.true)))))

pub returns : goal.returns
returns c =
    number_told _ _ _ _ _ _ _ _
    (then_judged _ _ _ c.in_ok-judge_size.ensures
    (then_judged _ _ _ c.in_ok-judge_rows.ensures
    (then_judged _ _ _ c.in_ok-judge_landmarks.ensures
    (if_judged _ _ _ _ _ (sym (ap not c.is_in.ensures) ∙ ap not c.if-not-is_in.false) (c.refuse_if.ensures ∙ rw c.is_property.ensures)))))
