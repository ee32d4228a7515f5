-- `graph::rules::judge_bare` meets its contract: one refusal after the other. Assumes nothing.
use Rattle.property.proofs.Basics.{ap, sym, ◌∙◌}
use Rattle.graph.specs.Refusal.{◌▷◌}
use Rattle.graph.specs.Table.{table}
use Rattle.graph.specs.Code.{told_with, columns}
use Rattle.graph.proofs.Judging.{lengths_accept, then_refused, then_judged, fine_accept, turned_on, handed_on, passed, all_fine}
use Rattle.graph.proofs.Verdicts.{accept_then}
use Rattle.graph.proofs.rules.judge_bare.Goals as goal

pub returns-in_err-judge_size : goal.returns-in_err-judge_size
returns-in_err-judge_size g c = λ k i law.
    turned_on k i _ law _ c.from_residual.ensures.1 ∙ then_refused _ _ _ c.in_err-judge_size.ensures

pub returns-in_err-judge_lengths : goal.returns-in_err-judge_lengths
returns-in_err-judge_lengths g c = λ k i law.
    turned_on k i _ law _ c.from_residual-in_err-judge_lengths.ensures.1
    ∙ then_judged _ _ _ c.in_ok-judge_size.ensures (then_refused _ _ _ c.in_err-judge_lengths.ensures)

pub judge_table-requires : goal.judge_table-requires
judge_table-requires g c =
    lengths_accept _ _ _ (fine_accept _ c.in_ok-judge_lengths.ensures)

pub returns-in_err-between : goal.returns-in_err-between
returns-in_err-between g c = λ k i law.
    handed_on k i _ _ _ c.from_residual-in_err-between.ensures.1
    ∙ ap (λ b. told_with k i b ▷ table c.args.n (columns c.args.tails.now c.args.heads.now c.args.weights.now) c.args.count) (sym c.in_err-between.was)
    ∙ sym (accept_then (fine_accept _ c.in_ok-judge_size.ensures) ∙ accept_then (fine_accept _ c.in_ok-judge_lengths.ensures))

pub returns-in_err-judge_table : goal.returns-in_err-judge_table
returns-in_err-judge_table g c = λ k i law.
    turned_on k i _ law _ c.from_residual-in_err-judge_table.ensures.1
    ∙ c.in_err-judge_table.ensures
    ∙ sym (accept_then (fine_accept _ c.in_ok-judge_size.ensures) ∙ accept_then (fine_accept _ c.in_ok-judge_lengths.ensures) ∙ accept_then (passed k i c.in_ok-between.was))

pub returns : goal.returns
returns g c = λ k i law.
    all_fine k i c.in_ok-judge_table.ensures
    ∙ sym (accept_then (fine_accept _ c.in_ok-judge_size.ensures) ∙ accept_then (fine_accept _ c.in_ok-judge_lengths.ensures) ∙ accept_then (passed k i c.in_ok-between.was))
