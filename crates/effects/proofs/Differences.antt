-- The difference of two words as a signed number: it fits, the machine computes it, and it is 0 exactly where the words are equal. Assumes nothing.
use Rattle.property.proofs.Basics.{◌≡◌, refl, sym, ap, ◌∙◌, Bool, true, false, cond, ℕ, zero, suc, ◌+◌, ◌-◌, ◌<◌, ◌^◌, arith, eqb, ltb, ltb-true, ltb-false, eqb-true, eq-eqb, ne_eqb}
use mathlib.Core.Path.{subst⁻¹}
use native.Mathlib.Nat.{lt_of_lt_of_le}
use lib.Dec.{lit≤}
use lib.IntN.{ℤ, pos, negsuc, ◌-ℤ◌}
use lib.Signed.{mag}
use mir.Syntax.{w64}
use mir.Val.{SFits, to_z, of_z}
use mir.Facts.{to_z_pos, to_z-of_z}
use Rattle.graph.proofs.Tests.{same_test}
use Rattle.effects.specs.Code.{is_zero}

-- whichever way the test goes, the size is below 2 ^ 32
small_pick : (t : Bool) (m k : ℕ) → m < 2 ^ 32 → k < 2 ^ 32 → mag (cond t (negsuc m) (pos k)) < 2 ^ 32
small_pick true m k hm hk = hm
small_pick false m k hm hk = hk

small : (a b : ℕ) → a < 2 ^ 32 → b < 2 ^ 32 → mag (pos a -ℤ pos b) < 2 ^ 63
small a zero ha hb = omega (arith, ha)
small a (suc b) ha hb = lt_of_lt_of_le (small_pick (ltb a (suc b)) (suc b - suc a) (a - suc b) (omega (arith, ha, hb)) (omega (arith, ha, hb))) (lit≤ tt)

-- the operands as the machine has them
bits : (a b : ℕ) → a < 2 ^ 32 → b < 2 ^ 32 → to_z w64 a -ℤ to_z w64 b ≡ pos a -ℤ pos b
bits a b ha hb = ap (λ (x : ℤ). x -ℤ to_z w64 b) (to_z_pos w64 {n = a} (omega (arith, ha))) ∙ ap (λ (y : ℤ). pos a -ℤ y) (to_z_pos w64 {n = b} (omega (arith, hb)))

pub fits : (a b : ℕ) → a < 2 ^ 32 → b < 2 ^ 32 → SFits w64 (to_z w64 a -ℤ to_z w64 b)
fits a b ha hb = subst⁻¹ (SFits w64) (bits a b ha hb) (record { sfits = small a b ha hb })

pub is : (a b : ℕ) → a < 2 ^ 32 → b < 2 ^ 32 → to_z w64 (of_z w64 (to_z w64 a -ℤ to_z w64 b)) ≡ pos a -ℤ pos b
is a b ha hb = to_z-of_z (fits a b ha hb) ∙ bits a b ha hb

-- ---- where it is 0

zero_pick : (t : Bool) (a b : ℕ) → ltb b (suc a) ≡ t → is_zero (cond t (negsuc (suc a - suc b)) (pos (b - suc a))) ≡ eqb (suc a) b
zero_pick true a b e = let h = ltb-true b (suc a) e in sym (ne_eqb (suc a) b (omega arith))
zero_pick false a b e =
    let h = ltb-false b (suc a) e in
    same_test _ _ (λ p. eq-eqb (suc a) b (let z = eqb-true (b - suc a) 0 p in omega arith), λ p. eq-eqb (b - suc a) 0 (let z = eqb-true (suc a) b p in omega arith))

pub zero_same : (a b : ℕ) → is_zero (pos b -ℤ pos a) ≡ eqb a b
zero_same zero b = same_test _ _ (λ p. eq-eqb 0 b (let z = eqb-true (b + 0) 0 p in omega arith), λ p. eq-eqb (b + 0) 0 (let z = eqb-true 0 b p in omega arith))
zero_same (suc a) b = zero_pick (ltb b (suc a)) a b refl

-- the machine's test for 0 goes by the bits
pub zero_bits : (d : ℤ) → SFits w64 d → of_z w64 d ≡ 0 → is_zero d ≡ true
zero_bits (pos k) s e = eq-eqb k 0 e
zero_bits (negsuc k) s e = let h = s.sfits in absurd (omega arith)

pub other_bits : (d : ℤ) → (of_z w64 d ≡ 0 → ⊥) → is_zero d ≡ false
other_bits (pos k) e = ne_eqb k 0 e
other_bits (negsuc k) e = refl
