-- `items::apply_item` meets its contract. Assumes nothing.
use Rattle.property.proofs.Basics.{arith, ◌≡◌}
use Rattle.network.specs.Change.{words}
use Rattle.graph.specs.Refusal.{accept}
use Rattle.graph.proofs.Judging.{passed_on, fine_accept}
use Rattle.items.specs.Code.{change}
use Rattle.items.proofs.Editing.{leaves_refused, words_insert, words_delete, item_words, change_kind, words_as, item_as}
use Rattle.items.proofs.apply_item.Goals as goal

pub returns-in_err-judge_words : goal.returns-in_err-judge_words
returns-in_err-judge_words c =
    let both = leaves_refused _ _ _ _ _ _ _ (passed_on _ c.from_residual.ensures.1) (item_words _ _ _ _ _ c.in_err-judge_words.ensures) in record { result_value = both.0; leaves = both.1 }

pub insert_item-requires : goal.insert_item-requires
insert_item-requires c =
    let fine : let a = c.args in words a.n a.place (change a.kind a.t a.h a.w a.old) ≡ accept = fine_accept _ c.in_ok-judge_words.ensures in
    let inserted : let a = c.args in change a.kind a.t a.h a.w a.old ≡ change 1 a.t a.h a.w 0 = let a = c.args in
    let p = c.if-kind-eq1.true in
    words_insert a.n a.place a.kind a.t a.h a.w a.old (λ q. omega arith) fine p in
    record { tabled = c.requires; w_value = words_as _ _ _ _ inserted fine }

pub returns-then-kind-eq1 : goal.returns-then-kind-eq1
returns-then-kind-eq1 c =
    let fine : let a = c.args in words a.n a.place (change a.kind a.t a.h a.w a.old) ≡ accept = fine_accept _ c.in_ok-judge_words.ensures in
    let inserted : let a = c.args in change a.kind a.t a.h a.w a.old ≡ change 1 a.t a.h a.w 0 = let a = c.args in
    let p = c.if-kind-eq1.true in
    words_insert a.n a.place a.kind a.t a.h a.w a.old (λ q. omega arith) fine p in
    let both = item_as _ _ _ _ _ inserted fine (c.insert_item.ensures.result_value, c.insert_item.ensures.leaves) in record { result_value = both.0; leaves = both.1 }

pub update_item-requires : goal.update_item-requires
update_item-requires c =
    let fine : let a = c.args in words a.n a.place (change a.kind a.t a.h a.w a.old) ≡ accept = fine_accept _ c.in_ok-judge_words.ensures in
    record { tabled = c.requires; value = words_as _ _ _ _ (change_kind _ _ _ _ c.if-kind-eq3.true) fine }

pub returns-then-kind-eq3 : goal.returns-then-kind-eq3
returns-then-kind-eq3 c =
    let fine : let a = c.args in words a.n a.place (change a.kind a.t a.h a.w a.old) ≡ accept = fine_accept _ c.in_ok-judge_words.ensures in
    let both = item_as _ _ _ _ _ (change_kind _ _ _ _ c.if-kind-eq3.true) fine (c.update_item.ensures.result_value, c.update_item.ensures.leaves) in record { result_value = both.0; leaves = both.1 }

pub delete_item-requires : goal.delete_item-requires
delete_item-requires c =
    let fine : let a = c.args in words a.n a.place (change a.kind a.t a.h a.w a.old) ≡ accept = fine_accept _ c.in_ok-judge_words.ensures in
    let deleted : let a = c.args in change a.kind a.t a.h a.w a.old ≡ change 2 a.t a.h a.w 0 = let a = c.args in
    words_delete a.n a.place a.kind a.t a.h a.w a.old c.if-kind-eq3.false fine c.if-kind-eq1.false in
    record { tabled = c.requires; w_value = words_as _ _ _ _ deleted fine }

pub returns : goal.returns
returns c =
    let fine : let a = c.args in words a.n a.place (change a.kind a.t a.h a.w a.old) ≡ accept = fine_accept _ c.in_ok-judge_words.ensures in
    let deleted : let a = c.args in change a.kind a.t a.h a.w a.old ≡ change 2 a.t a.h a.w 0 = let a = c.args in
    words_delete a.n a.place a.kind a.t a.h a.w a.old c.if-kind-eq3.false fine c.if-kind-eq1.false in
    let both = item_as _ _ _ _ _ deleted fine (c.delete_item.ensures.result_value, c.delete_item.ensures.leaves) in record { result_value = both.0; leaves = both.1 }
