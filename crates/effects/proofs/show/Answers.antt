-- `effects::show` meets its contract: the effects and moves of the vertices below t are written. Assumes nothing.
use Rattle.property.proofs.Basics.{needs, arith, ◌≡◌, refl, sym, ap, ap₂, ◌∙◌, List, [], ◌∷◌, map, ℕ, zero, suc, ◌+◌, ◌<◌, length, set, add-zero, zero-add, add-one}
use Rattle.graph.specs.Refusal.{over}
use Rattle.graph.specs.Edge.{range}
use Rattle.effects.specs.Code.{shown_of}
use Rattle.effects.proofs.show.Invariants.{effect_at, move_at}
use Rattle.effects.proofs.show.Goals as goal

module _ {A : Type 0} (f : ℕ → A) where
  table_from : (i n : ℕ) (l : List A) → n < length l → set (over (map f (range i n)) l) n (f (i + n)) ≡ over (map f (range i (suc n))) l
  unfolding range
  table_from i n [] h = absurd (omega arith)
  table_from i zero (y ∷ l) h = ap (λ (k : ℕ). f k ∷ l) (add-zero i)
  table_from i (suc n) (y ∷ l) h = ap (λ (z : List A). f i ∷ z) (ap (λ (k : ℕ). set (over (map f (range (suc i) n)) l) n (f k)) (omega arith) ∙ table_from (suc i) n l (omega arith))

  table_start : (l : List A) → l ≡ over (map f (range 0 0)) l
  unfolding range
  table_start l = refl

  table_more : (l m k : List A) (t : ℕ) (x : A) → t < length l → k ≡ set m t x → m ≡ over (map f (range 0 t)) l → x ≡ f t → k ≡ over (map f (range 0 (t + 1))) l
  table_more l m k t x h p e q = p ∙ (ap₂ (λ (n : List A) (y : A). set n t y) e (q ∙ ap f (sym (zero-add t))) ∙ (table_from 0 t l h ∙ ap (λ (n : ℕ). over (map f (range 0 n)) l) (sym (add-one t))))

pub loop-t-init : goal.loop-t-init
loop-t-init c =
    (table_start _ _, table_start _ _, search needs, refl, refl)

pub loop-t-preserved : goal.loop-t-preserved
loop-t-preserved c =
    let a = c.args in (
      table_more (effect_at a.p a.before.now a.after.now) a.effects.now _ _ c.loop-t.t _ (omega arith) c.put_effect.ensures.0 c.loop-t.invariant.0 c.effect_of.ensures.0,
      table_more (move_at a.p a.before.now a.after.now) a.moves.now _ _ c.loop-t.t _ (omega arith) c.put_effect.ensures.1 c.loop-t.invariant.1 c.effect_of.ensures.1,
      omega arith,
      c.put_effect.auto.effects ∙ c.loop-t.invariant.3,
      c.put_effect.auto.moves ∙ c.loop-t.invariant.4,
    )

pub returns : goal.returns
returns c =
    let a = c.args in
    let e : c.loop-t.t ≡ length a.before.now = omega arith in
    ap₂ shown_of
    (c.loop-t.invariant.0 ∙ ap (λ (n : ℕ). over (map (effect_at a.p a.before.now a.after.now) (range 0 n)) a.effects.now) e)
    (c.loop-t.invariant.1 ∙ ap (λ (n : ℕ). over (map (move_at a.p a.before.now a.after.now) (range 0 n)) a.moves.now) e)
