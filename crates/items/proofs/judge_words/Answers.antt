-- `items::judge_words` meets its contract. Assumes nothing.
use Rattle.property.proofs.Basics.{eqb, eq-eqb, ◌≡◌, ap, ap₂, ◌∙◌, inl, inr, ⊎_elim, Bool, true, not, ◌&&◌, ◌||◌}
use Rattle.graph.specs.Refusal.{refuse_if}
use Rattle.graph.specs.Code.{told}
use Rattle.graph.proofs.Tests.{or_right}
use Rattle.items.proofs.Editing.{words_outside, words_unkind, words_loop, words_rest}
use Rattle.items.proofs.judge_words.Goals as goal

pub returns-then-t-n : goal.returns-then-t-n
unfolding told
returns-then-t-n c =
    words_outside _ _ _ _ _ _ _ (⊎_elim (λ w. inl w) (λ w. inr w.1) c.then-t-n.either)

pub returns-then-kind-ne3 : goal.returns-then-kind-ne3
unfolding told
returns-then-kind-ne3 c =
    words_unkind _ _ _ _ _ _ _ c.if-t-n.false c.if-h-n.false c.if-kind-ne1.true c.if-kind-ne2.true c.if-kind-ne3.true

pub returns-then-t-h : goal.returns-then-t-h
unfolding told
returns-then-t-h c =
    let known : let k = c.args.kind in (eqb k 1 || (eqb k 2 || eqb k 3)) ≡ true = let k = c.args.kind in
    ⊎_elim (λ w. or_right (eqb k 1) (or_right (eqb k 2) (eq-eqb k 3 w.2))) (⊎_elim (λ w. or_right (eqb k 1) (rw (eq-eqb k 2 w.1))) (λ w. rw (eq-eqb k 1 w))) c.else-kind-ne1.either in
    words_loop _ _ _ _ _ _ _ c.if-t-n.false c.if-h-n.false known c.if-t-h.true

pub returns : goal.returns
returns c =
    let known : let k = c.args.kind in (eqb k 1 || (eqb k 2 || eqb k 3)) ≡ true = let k = c.args.kind in
    ⊎_elim (λ w. or_right (eqb k 1) (or_right (eqb k 2) (eq-eqb k 3 w.2))) (⊎_elim (λ w. or_right (eqb k 1) (rw (eq-eqb k 2 w.1))) (λ w. rw (eq-eqb k 1 w))) c.else-kind-ne1.either in
    c.refuse_if.ensures ∙ (ap (λ (b : Bool). refuse_if (not b) 9 c.args.place) (ap₂ ◌&&◌ c.is_weight.ensures c.is_suited.ensures)
    ∙ words_rest _ _ _ _ _ _ _ c.if-t-n.false c.if-h-n.false known c.if-t-h.false)
