-- `writer::network_text::judge_write` meets its contract: one refusal after the other. Assumes nothing.
use Rattle.graph.proofs.Judging.{lengths_accept, passed_on, then_refused, then_judged, fine_accept}
use Rattle.writer.proofs.network_text.judge_write.Goals as goal

pub returns-in_err-judge_size : goal.returns-in_err-judge_size
returns-in_err-judge_size c =
    rw (passed_on _ c.from_residual.ensures.1) (then_refused _ _ _ c.in_err-judge_size.ensures)

pub returns-in_err-judge_lengths : goal.returns-in_err-judge_lengths
returns-in_err-judge_lengths c =
    rw (passed_on _ c.from_residual-in_err-judge_lengths.ensures.1)
    (then_judged _ _ _ c.in_ok-judge_size.ensures (then_refused _ _ _ c.in_err-judge_lengths.ensures))

pub judge_table_plainly-requires : goal.judge_table_plainly-requires
judge_table_plainly-requires c =
    lengths_accept _ _ _ (fine_accept _ c.in_ok-judge_lengths.ensures)

pub returns : goal.returns
returns c =
    then_judged _ _ _ c.in_ok-judge_size.ensures (then_judged _ _ _ c.in_ok-judge_lengths.ensures c.judge_table_plainly.ensures)
