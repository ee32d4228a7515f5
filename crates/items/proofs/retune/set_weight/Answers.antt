-- `items::retune::set_weight` meets its contract. Assumes nothing.
use Rattle.property.proofs.Basics.{arith, ap, ◌∙◌, List, ℕ, get_or, inl, inr}
use Rattle.graph.specs.Edge.{edge, edges}
use Rattle.graph.specs.Code.{Room, position}
use Rattle.graph.proofs.Records.{room_less, edges_length}
use Rattle.graph.proofs.Order.{Sound, rules_accept}
use Rattle.items.proofs.Retuning.{Goes, goes_below, retuned}
use Rattle.items.proofs.retune.set_weight.Goals.{then-i-p, else-i-p}
use Rattle.items.proofs.retune.set_weight.Goals as goal

pub move_word-requires : goal.move_word-requires
move_word-requires c =
    let goes : let a = c.args in Goes a.i (position (edge (get_or a.tails.now a.i 0) (get_or a.heads.now a.i 0) a.w) (edges a.tails.now a.heads.now a.weights.now a.count)) c.if-i-p.j = let p = c.position-p.ensures in
    elim c.if-i-p.branch [ then-i-p w ↦ inl (omega arith, omega arith) | else-i-p w ↦ inr (omega arith, omega arith) ] in
    let room : let a = c.args in Room a.count a.tails.now a.heads.now a.weights.now = let t = c.requires.i_lt_count.1 in room_less t.few t.room in
    let sound : let a = c.args in Sound a.n (edges a.tails.now a.heads.now a.weights.now a.count) = rules_accept _ _ c.requires.i_lt_count.1.rules in
    let a = c.args in
    let long = edges_length _ _ _ _ room in
    let b = goes_below a.n _ sound _ a.i _ (omega arith) goes in
    let l = room.weights in
    (omega arith, omega arith)

pub returns : goal.returns
returns c =
    let goes : let a = c.args in Goes a.i (position (edge (get_or a.tails.now a.i 0) (get_or a.heads.now a.i 0) a.w) (edges a.tails.now a.heads.now a.weights.now a.count)) c.if-i-p.j = let p = c.position-p.ensures in
    elim c.if-i-p.branch [ then-i-p w ↦ inl (omega arith, omega arith) | else-i-p w ↦ inr (omega arith, omega arith) ] in
    let room : let a = c.args in Room a.count a.tails.now a.heads.now a.weights.now = let t = c.requires.i_lt_count.1 in room_less t.few t.room in
    let sound : let a = c.args in Sound a.n (edges a.tails.now a.heads.now a.weights.now a.count) = rules_accept _ _ c.requires.i_lt_count.1.rules in
    let a = c.args in
    ap (λ (ws : List ℕ). edges a.tails.now a.heads.now ws a.count) c.move_word.ensures ∙ retuned a.n _ _ _ _ room sound a.i a.w c.requires.i_lt_count.0 _ goes c.requires.w_value
