-- `writer::network_text::put_arc` meets its contract. Assumes nothing.
use Rattle.writer.proofs.Text.{arc_fields}
use Rattle.writer.proofs.network_text.put_arc.Goals as goal

pub put_line-requires : goal.put_line-requires
put_line-requires c =
    rw (arc_fields c.args.t c.args.h c.args.w) at c.requires

pub returns : goal.returns
returns c =
    let a = c.args in rw (arc_fields a.t a.h a.w) c.put_line.ensures
