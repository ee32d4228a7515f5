-- `writer::network_text::put_arcs` meets its contract: the lines from k on are still to be put. Assumes nothing.
use Rattle.property.proofs.Basics.{arith}
use Rattle.writer.proofs.Laid.{pending_start, pending_fits, pending_turn, pending_done}
use Rattle.writer.proofs.Text.{arcs_more, arcs_none}
use Rattle.writer.proofs.network_text.put_arcs.Goals as goal

pub loop-k-init : goal.loop-k-init
loop-k-init c =
    pending_start c.requires.fits

pub put_arc-end-requires : goal.put_arc-end-requires
put_arc-end-requires c =
    pending_fits c.loop-k.invariant _ _ (arcs_more c.requires.room c.loop-k.k (omega arith))

pub loop-k-preserved : goal.loop-k-preserved
loop-k-preserved c =
    pending_turn c.loop-k.invariant _ _ (arcs_more c.requires.room c.loop-k.k (omega arith)) c.put_arc-end.ensures

pub shape_of-out : goal.shape_of-out
shape_of-out c =
    c.loop-k.invariant.same

pub returns : goal.returns
returns c =
    pending_done c.loop-k.invariant (arcs_none c.requires.room c.loop-k.k (omega arith))
