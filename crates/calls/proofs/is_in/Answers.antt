-- `calls::is_in` meets its contract: what is left of the list decides. Assumes nothing.
use Rattle.property.proofs.Basics.{refl}
use Rattle.calls.proofs.Judging.{in_found, in_more, in_none}
use Rattle.calls.proofs.is_in.Goals as goal

pub loop-i-init : goal.loop-i-init
loop-i-init c =
    refl

pub returns-then-v-vertices : goal.returns-then-v-vertices
returns-then-v-vertices c =
    in_found _ _ c.loop-i.i c.loop-i.invariant c.loop-i-test.true c.if-v-vertices.true

pub loop-i-preserved : goal.loop-i-preserved
loop-i-preserved c =
    in_more _ _ c.loop-i.i c.loop-i.invariant c.loop-i-test.true c.if-v-vertices.false

pub returns : goal.returns
returns c =
    in_none _ _ c.loop-i.i c.loop-i.invariant c.loop-i-test.false
