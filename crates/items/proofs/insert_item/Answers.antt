-- `items::insert_item` meets its contract. Assumes nothing.
use Rattle.property.proofs.Basics.{arith, ◌≡◌, refl, sym, ◌∙◌, length}
use Rattle.std.specs.Prelude.{None}
use Rattle.graph.specs.Limits.{max_edges}
use Rattle.graph.specs.Edge.{edge, edges}
use Rattle.graph.specs.Code.{Room, find}
use Rattle.graph.proofs.Records.{room_less, edges_length}
use Rattle.network.specs.Change.{edit}
use Rattle.items.specs.Code.{change}
use Rattle.graph.specs.Table.{table_order}
use Rattle.graph.proofs.Seek.{absent_has}
use Rattle.items.proofs.Editing.{leaves_refused, insert_present, insert_full, insert_fine, item_leaves}
use Rattle.items.proofs.insert_item.Goals as goal

pub returns-in-Some : goal.returns-in-Some
returns-in-Some c =
    let both = leaves_refused _ _ _ _ _ _ _ refl (insert_present _ _ _ _ _ _ (sym c.find.ensures ∙ c.in-Some.is)) in record { result_value = both.0; leaves = both.1 }

pub returns-then-count-ge-MAX_EDGES : goal.returns-then-count-ge-MAX_EDGES
returns-then-count-ge-MAX_EDGES c =
    let absent : let a = c.args in find (edge a.t a.h a.w) (edges a.tails.now a.heads.now a.weights.now a.count) ≡ None = sym c.find.ensures ∙ c.in_default.is in
    let long : let a = c.args in length (edges a.tails.now a.heads.now a.weights.now a.count) ≡ a.count = let t = c.requires.tabled in edges_length _ _ _ _ (room_less t.few t.room) in
    let q = long in let both = leaves_refused _ _ _ _ _ _ _ refl (insert_full _ _ _ _ _ absent (omega arith)) in record { result_value = both.0; leaves = both.1 }

pub insert-requires : goal.insert-requires
insert-requires c =
    let absent : let a = c.args in find (edge a.t a.h a.w) (edges a.tails.now a.heads.now a.weights.now a.count) ≡ None = sym c.find.ensures ∙ c.in_default.is in
    let t = c.requires.tabled in record { room = room_less (omega arith) t.room; count_value = t.rules; w_value = absent_has table_order _ _ absent }

pub returns : goal.returns
unfolding edit
returns c =
    let absent : let a = c.args in find (edge a.t a.h a.w) (edges a.tails.now a.heads.now a.weights.now a.count) ≡ None = sym c.find.ensures ∙ c.in_default.is in
    let long : let a = c.args in length (edges a.tails.now a.heads.now a.weights.now a.count) ≡ a.count = let t = c.requires.tabled in edges_length _ _ _ _ (room_less t.few t.room) in
    let q = long in
    let a = insert_fine _ c.args.t c.args.h c.args.w c.args.place absent (omega arith) in
    let r : Room max_edges c.insert.new.tails c.insert.new.heads c.insert.new.weights = record { tails = omega arith; heads = omega arith; weights = omega arith } in let both = item_leaves _ c.args.place _ _ _ _ (change 1 c.args.t c.args.h c.args.w 0) c.requires.tabled c.requires.w_value a _ _ _ _ (omega arith) r c.insert.ensures in record { result_value = both.0; leaves = both.1 }
