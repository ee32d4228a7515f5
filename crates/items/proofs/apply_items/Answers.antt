-- `items::apply_items` meets its contract: what is left of the changes gives, from here, the verdict and the edges of all. Assumes nothing.
use Rattle.property.proofs.Basics.{arith, ◌≡◌, refl, ◌∙◌, List, ◌∷◌, ◌+◌, drop, drop_of_length-le}
use Rattle.network.specs.Change.{Change}
use Rattle.graph.proofs.Judging.{passed_on}
use Rattle.items.specs.Code.{change_at, Laid}
use Rattle.items.proofs.Editing.{items_more, items_stop, items_none, edits_more, edits_none, leaves_refused, leaves_count}
use Rattle.items.proofs.Laying.{laid_more}
use Rattle.items.proofs.apply_items.Goals as goal

pub loop-k-init : goal.loop-k-init
loop-k-init c =
    (λ cs h. (refl, refl), c.requires.0, omega arith, refl, refl, refl)

pub apply_item-requires : goal.apply_item-requires
apply_item-requires c =
    c.loop-k.invariant.1

pub returns-in_err-m : goal.returns-in_err-m
returns-in_err-m c cs h =
    let next : let a = c.args in let k = c.loop-k.k in
    (cs : List Change) → Laid a.size cs a.lists.now → drop k cs ≡ change_at a.lists.now k ∷ drop (k + 1) cs = λ cs h. let k = c.loop-k-test.true in
    let z = c.requires.1 in
    laid_more _ cs _ h _ (omega arith) (omega arith) in
    leaves_refused _ _ _ _ _ _ _ (passed_on _ c.from_residual.ensures.1) (items_stop _ _ _ _ _ _ (next cs h) (c.loop-k.invariant.0 cs h).0 _ c.in_err-m.ensures.result_value)

pub loop-k-preserved : goal.loop-k-preserved
loop-k-preserved c =
    let next : let a = c.args in let k = c.loop-k.k in
    (cs : List Change) → Laid a.size cs a.lists.now → drop k cs ≡ change_at a.lists.now k ∷ drop (k + 1) cs = λ cs h. let k = c.loop-k-test.true in
    let z = c.requires.1 in
    laid_more _ cs _ h _ (omega arith) (omega arith) in
    let f = c.in_ok-m.ensures.leaves.edges _ refl in (
      λ cs h. (items_more _ _ _ _ _ _ (next cs h) (c.loop-k.invariant.0 cs h).0 _ c.in_ok-m.ensures.result_value _ f, edits_more _ _ _ _ _ (next cs h) f (c.loop-k.invariant.0 cs h).1),
      c.in_ok-m.ensures.leaves.table _ refl,
      omega arith,
      c.apply_item.auto.tails ∙ c.loop-k.invariant.3,
      c.apply_item.auto.heads ∙ c.loop-k.invariant.4,
      c.apply_item.auto.weights ∙ c.loop-k.invariant.5,
    )

pub returns : goal.returns
returns c cs h =
    let i = c.loop-k.invariant in
    let z = drop_of_length-le cs {i = c.loop-k.k} (omega (arith, h.size, c.loop-k-test.false)) in
    leaves_count _ _ _ _ _ _ i.1 (edits_none _ _ z (i.0 cs h).1) (items_none _ _ _ _ z (i.0 cs h).0)
