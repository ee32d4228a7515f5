-- `effects::effect_of` meets its contract, by its four cases. Assumes nothing.
use Rattle.property.proofs.Basics.{◌≡◌, refl, ap, ◌∙◌, ◌≢◌, ℕ, eq-eqb, ne_eqb}
use lib.IntN.{ℤ, pos, ◌-ℤ◌}
use mir.Syntax.{w64}
use mir.Val.{SFits, to_z, of_z}
use mir.Facts.{to_z-of_z}
use Rattle.property.specs.Property.{Property, property}
use Rattle.answers.specs.Preview.{effect_of, move_of}
use Rattle.effects.specs.declared.Effect.{Effect}
use Rattle.effects.specs.declared.Effect.TheVariants.{Neither, Gained, Lost, Both}
use Rattle.effects.specs.Code.{is_zero, effect_number, effect_move}
use Rattle.effects.proofs.Differences.{zero_same}
use Rattle.effects.proofs.effect_of.Goals as goal

-- the effect e is that of a vertex whose word is a and then b
abbrev IsEffect : Effect → Property → ℕ → ℕ → Type 0
IsEffect e P a b = (effect_number e ≡ effect_of P a b) × (effect_move e ≡ move_of P a b)

module _ (P : Property) (a b n : ℕ) (q : n ≡ P.none) where
  neither : a ≡ n → b ≡ n → IsEffect Neither P a b
  unfolding effect_number effect_move
  neither e f = rw (eq-eqb a b cc, eq-eqb a P.none (e ∙ q)) (refl, refl)

  gained : a ≡ n → b ≢ n → IsEffect Gained P a b
  unfolding effect_number effect_move
  gained e f = rw (ne_eqb a b (λ z. f cc), eq-eqb a P.none (e ∙ q)) (refl, refl)

  lost : a ≢ n → b ≡ n → IsEffect Lost P a b
  unfolding effect_number effect_move
  lost e f = rw (ne_eqb a b (λ z. e cc), ne_eqb a P.none (λ z. e cc), eq-eqb b P.none (f ∙ q)) (refl, refl)

  moved : (d : ℤ) → d ≡ pos b -ℤ pos a → SFits w64 d → a ≢ n → b ≢ n → IsEffect (Both (to_z w64 (of_z w64 d))) P a b
  unfolding effect_number effect_move
  moved d h s e f =
      let z = to_z-of_z s ∙ h in
      let y = ap is_zero z ∙ zero_same a b in
      rw (ne_eqb a P.none (λ z. e cc), ne_eqb b P.none (λ z. f cc)) (rw y, z)

pub returns-then-after-none : goal.returns-then-after-none
returns-then-after-none c =
    neither (property c.args.p) _ _ _ c.none-none.ensures c.if-before-none.true c.if-after-none.true

pub returns-then-before-none : goal.returns-then-before-none
returns-then-before-none c =
    gained (property c.args.p) _ _ _ c.none-none.ensures c.if-before-none.true c.if-after-none.false

pub returns-then-after-none-2 : goal.returns-then-after-none-2
returns-then-after-none-2 c =
    lost (property c.args.p) _ _ _ c.none-none.ensures c.if-before-none.false c.if-after-none-2.true

pub returns : goal.returns
returns c =
    moved (property c.args.p) _ _ _ c.none-none.ensures _ c.difference.ensures (record { sfits = c.difference.type_inv }) c.if-before-none.false c.if-after-none-2.false
