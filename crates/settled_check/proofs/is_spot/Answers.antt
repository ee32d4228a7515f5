-- `settled_check::is_spot` meets its contract. Assumes nothing.
use Rattle.property.proofs.Basics.{◌∙◌, true, false, eq-eqb, ne_eqb}
use Rattle.graph.specs.Code.{edge_at}
use Rattle.network.specs.Network.{property_of}
use Rattle.settled_check.proofs.Checking.{spot_on}
use Rattle.settled_check.proofs.is_spot.Goals as goal

pub returns-then-side-eq0 : goal.returns-then-side-eq0
returns-then-side-eq0 c =
    let a = c.args in
    c.is_relaxable.ensures ∙ spot_on a.side (property_of a.r) a.n a.r a.forward.now a.backward.now (edge_at a.tails.now a.heads.now a.weights.now a.j) true (eq-eqb _ _ c.if-side-eq0.true)

pub returns : goal.returns
returns c =
    let a = c.args in
    c.is_relaxable-2.ensures ∙ spot_on a.side (property_of a.r) a.n a.r a.forward.now a.backward.now (edge_at a.tails.now a.heads.now a.weights.now a.j) false (ne_eqb _ _ c.if-side-eq0.false)
