-- `writer::put::fields_width` meets its contract: the bytes of the numbers below v-index are summed. Assumes nothing.
use Rattle.property.proofs.Basics.{arith, ◌≡◌, ◌≤◌, length, get_or}
use Rattle.dimacs.specs.Decimal.{digits}
use Rattle.writer.proofs.Fields.{width_word, fields_sum, fields_all}
use Rattle.writer.proofs.put.fields_width.Goals as goal

pub loop-v-init : goal.loop-v-init
loop-v-init c =
    (omega arith, omega arith)

pub overflow_add-sum : goal.overflow_add-sum
overflow_add-sum c =
    let most : c.width.result ≤ 20 = rw c.width.ensures (width_word (get_or c.args.values.now c.loop-v.v-index 0) (omega (arith, c.type_inv.values c.loop-v.v-index))) in
    omega (arith, most)

pub overflow_add-sum-in-loop-v : goal.overflow_add-sum-in-loop-v
overflow_add-sum-in-loop-v c =
    let most : c.width.result ≤ 20 = rw c.width.ensures (width_word (get_or c.args.values.now c.loop-v.v-index 0) (omega (arith, c.type_inv.values c.loop-v.v-index))) in
    omega (arith, most)

pub loop-v-preserved : goal.loop-v-preserved
loop-v-preserved c =
    let most : c.width.result ≤ 20 = rw c.width.ensures (width_word (get_or c.args.values.now c.loop-v.v-index 0) (omega (arith, c.type_inv.values c.loop-v.v-index))) in
    let vs = c.args.values.now in
    let e : c.width.result ≡ length (digits (get_or vs c.loop-v.v-index 0)) = c.width.ensures in
    (rw e (fields_sum vs c.loop-v.v-index c.loop-v.sum _ (omega arith) c.loop-v.invariant.0), omega (arith, most))

pub returns : goal.returns
returns c =
    record { value = fields_all c.args.values.now c.loop-v.v-index c.loop-v.sum _ (omega arith) c.loop-v.invariant.0; upper_bound = omega arith }
