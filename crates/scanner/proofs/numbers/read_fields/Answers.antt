-- `scanner::numbers::read_fields` meets its contract: the fields so far and those that are left come to the same. Assumes nothing.
use Rattle.property.proofs.Basics.{arith, [], length-replicate, length-set}
use Rattle.scanner.proofs.Fields.{turn_start, turn_none, turn_one, turn_over, turn_long}
use Rattle.scanner.proofs.numbers.read_fields.Goals as goal

pub loop-value-init : goal.loop-value-init
loop-value-init g c =
    (turn_start _ [] _, length-replicate _ _)

pub returns-in_err-number : goal.returns-in_err-number
returns-in_err-number g c =
    rw c.from_residual.ensures (turn_none _ _ _ _ (omega arith) c.in_err-number.ensures.0 c.loop-value.invariant.0)

pub loop-value-preserved : goal.loop-value-preserved
loop-value-preserved g c =
    (turn_one _ _ _ _ (omega arith) c.loop-value.invariant.1 c.in_ok-number.ensures.0 c.loop-value.invariant.0, simp length-set c.loop-value.invariant.1)

pub returns-then-end-s : goal.returns-then-end-s
returns-then-end-s g c =
    turn_long _ _ _ _ _ (omega arith) c.loop-value.invariant.1 c.loop-value.invariant.0 c.if-end-s.true

pub returns : goal.returns
returns g c =
    turn_over _ _ _ _ _ (omega arith) c.loop-value.invariant.1 c.loop-value.invariant.0 c.if-end-s.false
