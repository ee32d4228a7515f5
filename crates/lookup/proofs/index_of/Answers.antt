-- `lookup::index_of` meets its contract: what is left of the list decides. Assumes nothing.
use Rattle.property.proofs.Basics.{arith, ◌≡◌, ◌∙◌, length, zero-add}
use Rattle.lookup.proofs.Showing.{index_found, index_more, index_none}
use Rattle.lookup.proofs.index_of.Goals as goal

pub loop-i-init : goal.loop-i-init
loop-i-init c =
    zero-add _

pub returns-then-v-vertex : goal.returns-then-v-vertex
returns-then-v-vertex c =
    index_found _ _ c.loop-i.i c.loop-i.invariant c.loop-i-test.true c.if-v-vertex.true

pub loop-i-preserved : goal.loop-i-preserved
loop-i-preserved c =
    index_more _ _ c.loop-i.i c.loop-i.invariant c.loop-i-test.true c.if-v-vertex.false

pub returns : goal.returns
returns c =
    let e : length c.args.vertices.now ≡ c.loop-i.i = omega arith in
    e ∙ index_none _ _ c.loop-i.i c.loop-i.invariant c.loop-i-test.false
