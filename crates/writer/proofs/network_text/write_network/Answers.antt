-- `writer::network_text::write_network` meets its contract: judged, measured, and written from the start of the buffer. Assumes nothing.
use Rattle.property.proofs.Basics.{arith}
use Rattle.graph.proofs.Judging.{passed_on}
use Rattle.writer.proofs.Laid.{first_fits, second_fits, both_wrote}
use Rattle.writer.proofs.Writing.{write_refused, writable, lines, write_short, fits, write_good}
use Rattle.writer.proofs.network_text.write_network.Goals as goal

pub returns-in_err-judge_write : goal.returns-in_err-judge_write
returns-in_err-judge_write c =
    rw (passed_on _ c.from_residual.ensures.1) (write_refused _ _ _ _ _ c.in_err-judge_write.ensures)

pub arcs_width-requires : goal.arcs_width-requires
arcs_width-requires c =
    let a = c.args in
    let w = writable a.n a.tails.now a.heads.now a.weights.now a.count c.in_ok-judge_write.ensures in
    (w.count, w.room)

pub overflow_add-length : goal.overflow_add-length
overflow_add-length c =
    let a = c.args in
    let w = writable a.n a.tails.now a.heads.now a.weights.now a.count c.in_ok-judge_write.ensures in
    omega (arith, w.count, c.problem_width.ensures.upper_bound, c.arcs_width.ensures.upper_bound)

pub returns-then-text-length : goal.returns-then-text-length
returns-then-text-length c =
    let a = c.args in
    write_short a.n a.tails.now a.heads.now a.weights.now a.count c.in_ok-judge_write.ensures c.problem_width.ensures.value c.arcs_width.ensures.value _ c.if-text-length.true

pub put_problem-arcs-requires : goal.put_problem-arcs-requires
put_problem-arcs-requires c =
    let a = c.args in
    let h = c.in_ok-judge_write.ensures in
    first_fits _ _ (lines _ _ _ _ _ h) (fits a.n a.tails.now a.heads.now a.weights.now a.count h c.problem_width.ensures.value c.arcs_width.ensures.value _ c.if-text-length.false)

pub put_arcs-requires : goal.put_arcs-requires
put_arcs-requires c =
    let a = c.args in
    let h = c.in_ok-judge_write.ensures in
    let f = fits a.n a.tails.now a.heads.now a.weights.now a.count h c.problem_width.ensures.value c.arcs_width.ensures.value _ c.if-text-length.false in
    record { room = (writable a.n a.tails.now a.heads.now a.weights.now a.count h).room; fits = second_fits _ _ (lines _ _ _ _ _ h) f c.put_problem-arcs.ensures }

pub returns : goal.returns
returns c =
    let a = c.args in
    let h = c.in_ok-judge_write.ensures in
    let l = c.if-text-length.false in
    let u = c.problem_width.ensures.value in
    let v = c.arcs_width.ensures.value in
    write_good a.n a.tails.now a.heads.now a.weights.now a.count h u v _ l (both_wrote _ _ (lines _ _ _ _ _ h) (fits _ _ _ _ _ h u v _ l) c.put_problem-arcs.ensures c.put_arcs.ensures)
