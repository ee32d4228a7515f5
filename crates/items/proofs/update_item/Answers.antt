-- `items::update_item` meets its contract. Assumes nothing.
use Rattle.property.proofs.Basics.{arith, ◌≡◌, refl, sym, ap, ◌∙◌, false, not, ◌&&◌, get_or, eqb}
use Rattle.std.specs.Prelude.{Some}
use Rattle.graph.specs.Limits.{max_edges}
use Rattle.graph.specs.Edge.{edge, edges, among}
use Rattle.graph.specs.Table.{table_order, delete}
use Rattle.graph.specs.Refusal.{accept}
use Rattle.graph.specs.Code.{Room, find, delete_at}
use Rattle.graph.proofs.Seek.{delete_found}
use Rattle.graph.proofs.Order.{rules_accept}
use Rattle.network.specs.Change.{against, edit}
use Rattle.network.proofs.Items.{item_taken, update_clears}
use Rattle.items.specs.Code.{change}
use Rattle.items.proofs.Editing.{leaves_refused, update_taken, against_absent, against_found, found_below, found_words, item_against, item_leaves}
use Rattle.items.proofs.update_item.Goals as goal

pub returns-then-is_taken : goal.returns-then-is_taken
returns-then-is_taken c =
    let both = leaves_refused _ _ _ _ _ _ _ refl (update_taken _ _ _ _ _ _ (sym c.is_taken.ensures ∙ c.if-is_taken.true)) in record { result_value = both.0; leaves = both.1 }

pub returns-in_default : goal.returns-in_default
returns-in_default c =
    let fresh : let a = c.args in (not (eqb a.w a.old) && among (edges a.tails.now a.heads.now a.weights.now a.count) (edge a.t a.h a.w)) ≡ false = sym c.is_taken.ensures ∙ c.if-is_taken.false in
    let a = c.args in let both = leaves_refused _ _ _ _ _ _ _ refl (against_absent _ (change 3 a.t a.h a.w a.old) _ refl fresh (sym c.find.ensures ∙ c.in_default.is)) in record { result_value = both.0; leaves = both.1 }

pub set_weight-requires : goal.set_weight-requires
set_weight-requires c =
    let fresh : let a = c.args in (not (eqb a.w a.old) && among (edges a.tails.now a.heads.now a.weights.now a.count) (edge a.t a.h a.w)) ≡ false = sym c.is_taken.ensures ∙ c.if-is_taken.false in
    let found : let a = c.args in find (edge a.t a.h a.old) (edges a.tails.now a.heads.now a.weights.now a.count) ≡ Some c.in-Some.at = sym c.find.ensures ∙ c.in-Some.is in
    let good : let a = c.args in against a.place (edges a.tails.now a.heads.now a.weights.now a.count) (change 3 a.t a.h a.w a.old) ≡ accept = let a = c.args in sym (against_found _ (change 3 a.t a.h a.w a.old) a.place refl fresh _ found) in
    let strikes : let a = c.args in delete_at c.in-Some.at (edges a.tails.now a.heads.now a.weights.now a.count) ≡ delete (edge a.t a.h a.old) (edges a.tails.now a.heads.now a.weights.now a.count) = delete_found table_order _ _ _ found in
    let names : let a = c.args in edge (get_or a.tails.now c.in-Some.at 0) (get_or a.heads.now c.in-Some.at 0) a.w ≡ edge a.t a.h a.w = let a = c.args in ap (λ e. edge e.tail e.head a.w) (found_words _ _ _ _ _ c.requires.tabled _ _ _ _ found) in
    let a = c.args in
    let k = change 3 a.t a.h a.w a.old in
    let u = item_taken a.n a.place _ k (sym (item_against a.n a.place _ k c.requires.value (sym good))) in record { i_lt_count = (found_below _ _ _ _ _ c.requires.tabled _ _ (found), c.requires.tabled); w_value = rw (names, strikes) (update_clears a.n _ k u (rules_accept _ _ c.requires.tabled.rules) refl) }

pub returns : goal.returns
unfolding edit
returns c =
    let fresh : let a = c.args in (not (eqb a.w a.old) && among (edges a.tails.now a.heads.now a.weights.now a.count) (edge a.t a.h a.w)) ≡ false = sym c.is_taken.ensures ∙ c.if-is_taken.false in
    let found : let a = c.args in find (edge a.t a.h a.old) (edges a.tails.now a.heads.now a.weights.now a.count) ≡ Some c.in-Some.at = sym c.find.ensures ∙ c.in-Some.is in
    let good : let a = c.args in against a.place (edges a.tails.now a.heads.now a.weights.now a.count) (change 3 a.t a.h a.w a.old) ≡ accept = let a = c.args in sym (against_found _ (change 3 a.t a.h a.w a.old) a.place refl fresh _ found) in
    let strikes : let a = c.args in delete_at c.in-Some.at (edges a.tails.now a.heads.now a.weights.now a.count) ≡ delete (edge a.t a.h a.old) (edges a.tails.now a.heads.now a.weights.now a.count) = delete_found table_order _ _ _ found in
    let names : let a = c.args in edge (get_or a.tails.now c.in-Some.at 0) (get_or a.heads.now c.in-Some.at 0) a.w ≡ edge a.t a.h a.w = let a = c.args in ap (λ e. edge e.tail e.head a.w) (found_words _ _ _ _ _ c.requires.tabled _ _ _ _ found) in
    let a = c.args in
    let t = c.requires.tabled in
    let e = rw (names, strikes) at c.set_weight.ensures in
    let r : Room max_edges a.tails.now a.heads.now c.set_weight.new.weights = record { tails = t.room.tails; heads = t.room.heads; weights = omega arith } in let both = item_leaves _ a.place _ _ _ _ (change 3 a.t a.h a.w a.old) t c.requires.value (sym good) _ _ _ _ t.few r e in record { result_value = both.0; leaves = both.1 }
