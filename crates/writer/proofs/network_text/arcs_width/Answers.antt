-- `writer::network_text::arcs_width` meets its contract: the lines below k are summed. Assumes nothing.
use Rattle.property.proofs.Basics.{arith}
use Rattle.writer.proofs.Text.{arcs_sum, arcs_all}
use Rattle.writer.proofs.network_text.arcs_width.Goals as goal

pub loop-k-init : goal.loop-k-init
loop-k-init c =
    (omega arith, omega arith)

pub overflow_add-sum : goal.overflow_add-sum
overflow_add-sum c =
    omega (arith, c.arc_width-sum.ensures.upper_bound)

pub loop-k-preserved : goal.loop-k-preserved
loop-k-preserved c =
    (arcs_sum c.requires.1 c.loop-k.k c.loop-k.sum _ _ (omega arith) c.arc_width-sum.ensures.value c.loop-k.invariant.0, omega (arith, c.arc_width-sum.ensures.upper_bound))

pub returns : goal.returns
returns c =
    record { value = arcs_all c.requires.1 c.loop-k.k c.loop-k.sum _ (omega arith) c.loop-k.invariant.0; upper_bound = omega arith }
