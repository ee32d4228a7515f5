-- `items::retune::move_word` meets its contract: with the word at k struck, the list is the one at entry with that at i struck. Assumes nothing.
use Rattle.property.proofs.Basics.{needs, arith, suc, add-one, max, ◌-◌, ◌≡◌, refl, ap, ◌∙◌, length-set}
use Rattle.graph.specs.Code.{insert_at}
use Rattle.items.proofs.Retuning.{struck_next, struck_last, put_back}
use Rattle.items.proofs.retune.move_word.Goals as goal

pub loop-k-preserved : goal.loop-k-preserved
loop-k-preserved c =
    let l = c.loop-k in
    (rw add-one (struck_next 0 l.words l.k (omega arith)) ∙ l.invariant.0, omega arith, omega arith, simp length-set l.invariant.3)

pub loop-k-2-init : goal.loop-k-2-init
loop-k-2-init c =
    let e : c.loop-k.k ≡ max c.args.i c.args.j = omega arith in
    (rw e at c.loop-k.invariant.0, search needs, refl)

pub loop-k-2-preserved : goal.loop-k-2-preserved
loop-k-2-preserved c =
    let l = c.loop-k-2 in
    let j = c.args.j in
    let e : max (l.k - 1) j ≡ l.k - 1 = omega arith in
    let f : max l.k j ≡ suc (l.k - 1) = omega arith in
    (rw (e, add-one) (struck_last 0 l.words (l.k - 1) (omega arith)) ∙ (rw f at l.invariant.0), simp length-set (omega arith), simp length-set l.invariant.2)

pub shape_of-words : goal.shape_of-words
shape_of-words c =
    simp length-set (c.loop-k-2.invariant.2 ∙ c.loop-k.invariant.3)

pub returns : goal.returns
returns c =
    let a = c.args in
    let e : max c.loop-k-2.k a.j ≡ a.j = omega arith in
    put_back c.loop-k-2.words a.j a.w (omega arith) ∙ ap (insert_at a.j a.w) (rw e at c.loop-k-2.invariant.0)
