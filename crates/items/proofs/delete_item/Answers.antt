-- `items::delete_item` meets its contract. Assumes nothing.
use Rattle.property.proofs.Basics.{arith, ◌≡◌, refl, sym, ◌∙◌, ◌<◌, ◌≤◌}
use Rattle.std.specs.Prelude.{Some}
use Rattle.graph.specs.Limits.{max_edges}
use Rattle.graph.specs.Edge.{edge, edges}
use Rattle.graph.specs.Code.{Room, find}
use Rattle.graph.proofs.Records.{room_less}
use Rattle.graph.proofs.Seek.{delete_found}
use Rattle.network.specs.Change.{edit}
use Rattle.items.specs.Code.{change}
use Rattle.items.proofs.Editing.{leaves_refused, against_absent, against_found, found_below, item_leaves}
use Rattle.items.proofs.delete_item.Goals as goal

pub returns-in_default : goal.returns-in_default
returns-in_default c =
    let g = c.args in let both = leaves_refused _ _ _ _ _ _ _ refl (against_absent _ (change 2 g.t g.h g.w 0) _ refl refl (sym c.find.ensures ∙ c.in_default.is)) in record { result_value = both.0; leaves = both.1 }

pub delete_at-requires : goal.delete_at-requires
delete_at-requires c =
    let found : let a = c.args in find (edge a.t a.h a.w) (edges a.tails.now a.heads.now a.weights.now a.count) ≡ Some c.in-Some.at = sym c.find.ensures ∙ c.in-Some.is in
    let below : c.in-Some.at < c.args.count = found_below _ _ _ _ _ c.requires.tabled _ _ (found) in
    let t = c.requires.tabled in
    (below, room_less t.few t.room)

pub overflow_sub-result : goal.overflow_sub-result
overflow_sub-result c =
    let found : let a = c.args in find (edge a.t a.h a.w) (edges a.tails.now a.heads.now a.weights.now a.count) ≡ Some c.in-Some.at = sym c.find.ensures ∙ c.in-Some.is in
    let below : c.in-Some.at < c.args.count = found_below _ _ _ _ _ c.requires.tabled _ _ (found) in
    let l = below in omega arith

pub returns : goal.returns
unfolding edit
returns c =
    let found : let a = c.args in find (edge a.t a.h a.w) (edges a.tails.now a.heads.now a.weights.now a.count) ≡ Some c.in-Some.at = sym c.find.ensures ∙ c.in-Some.is in
    let k = change 2 c.args.t c.args.h c.args.w 0 in
    let a = against_found _ k c.args.place refl refl _ found in
    let e = c.delete_at.ensures ∙ delete_found _ _ _ _ found in
    let t : c.args.count ≤ max_edges = c.requires.tabled.few in
    let r : Room max_edges c.delete_at.new.tails c.delete_at.new.heads c.delete_at.new.weights = record { tails = omega arith; heads = omega arith; weights = omega arith } in let both = item_leaves _ c.args.place _ _ _ _ k c.requires.tabled c.requires.w_value a _ _ _ _ (omega arith) r e in record { result_value = both.0; leaves = both.1 }
