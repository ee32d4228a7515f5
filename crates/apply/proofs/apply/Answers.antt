-- `apply::apply` meets its contract. Assumes nothing.
use Rattle.property.proofs.Basics.{arith, refl, sym}
use Rattle.graph.specs.Edge.{edges}
use Rattle.graph.proofs.Records.{room_less, edges_length}
use Rattle.compare.specs.Code.{Tables}
use Rattle.graph.proofs.Order.{rules_accept, within}
use Rattle.network.proofs.Never.{FitList}
use Rattle.network.proofs.Still.{still_waiting_lem}
use Rattle.calls.specs.Code.{network}
use Rattle.apply.proofs.Applying.{apply_done, sides_made}
use Rattle.apply.proofs.apply.Goals as goal

pub returns : goal.returns
returns c =
    let tables : let a = c.args in Tables a.n a.count a.tails.now a.heads.now a.weights.now a.count2 a.tails2.now a.heads2.now a.weights2.now = let o = c.requires.fair.table in
    let w = c.requires.tabled in
    record { few = c.requires.fair.few; old = (o.few, room_less o.few o.room, o.rules); new = (w.few, room_less w.few w.room, w.rules) } in
    let a = c.args in
    let t = c.requires.tabled in
    let fs = edges a.tails2.now a.heads2.now a.weights2.now a.count2 in
    let o = c.batch_sides-rows.ensures _ _ (sides_made a.n a.count a.tails.now a.heads.now a.weights.now a.count2 a.tails2.now a.heads2.now a.weights2.now _ _ _ _ _ tables c.differences-changed.ensures.differences c.index.ensures.own c.index_reversed.ensures.own c.index-2.ensures.own c.index_reversed-2.ensures.own) in
    let f : FitList a.forward.now = λ k. omega (arith, c.slice_known-4-1.given k) in
    let b : FitList a.backward.now = λ k. omega (arith, c.slice_known-5-1.given k) in
    let u = still_waiting_lem a.n a.landmarks.now (network a.tails.now a.heads.now a.weights.now a.forward.now a.backward.now a.count) fs (within a.n fs (rules_accept a.n fs t.rules))
    f b in
    apply_done a.n a.landmarks.now a.tails.now a.heads.now a.weights.now _ _ a.count fs _ _ c.batch_sides-rows.result o u _ _ _ _
    (sym (edges_length _ _ _ _ (room_less t.few t.room))) refl refl c.write_table.ensures
