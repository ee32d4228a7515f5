-- `writer::put::put_fields` meets its contract: the numbers from v-index on are still to be put. Assumes nothing.
use Rattle.property.proofs.Basics.{arith}
use Rattle.writer.proofs.Laid.{pending_start, pending_fits, pending_turn, pending_done}
use Rattle.writer.proofs.Fields.{fields_more, fields_none}
use Rattle.writer.proofs.put.put_fields.Goals as goal

pub loop-v-init : goal.loop-v-init
loop-v-init c =
    pending_start c.requires

pub put_field-end-requires : goal.put_field-end-requires
put_field-end-requires c =
    pending_fits c.loop-v.invariant _ _ (fields_more c.args.values.now c.loop-v.v-index (omega arith))

pub loop-v-preserved : goal.loop-v-preserved
loop-v-preserved c =
    pending_turn c.loop-v.invariant _ _ (fields_more c.args.values.now c.loop-v.v-index (omega arith)) c.put_field-end.ensures

pub shape_of-out : goal.shape_of-out
shape_of-out c =
    c.loop-v.invariant.same

pub returns : goal.returns
returns c =
    pending_done c.loop-v.invariant (fields_none c.args.values.now c.loop-v.v-index (omega arith))
