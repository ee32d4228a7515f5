-- `writer::network_text::put_problem` meets its contract. Assumes nothing.
use Rattle.writer.proofs.Text.{problem_fields}
use Rattle.writer.proofs.network_text.put_problem.Goals as goal

pub put_line-requires : goal.put_line-requires
put_line-requires c =
    rw (problem_fields c.args.n c.args.count) at c.requires

pub returns : goal.returns
returns c =
    let a = c.args in rw (problem_fields a.n a.count) c.put_line.ensures
