-- What theorems about single routes need of a property, beyond `Laws`; and which properties have it, by number. Assumes nothing.
--
--   Strict P  == of two values the better stays better along an edge, unless no route comes of the other
--   Selects P == where a value and an edge's own value are no worse than v, neither is the value gone along that edge
use Rattle.property.proofs.Basics.{◌≡◌, ◌≢◌, true, false, ℕ, zero, suc, ◌≤◌, ◌<◌, arith}
use Rattle.property.specs.Property.{Property, properties, property}
use Rattle.property.proofs.Tests.{tests}

pub record Strict (P : Property) : Type 0 where
  pub along_strict : (a b w : ℕ) → P.better b a ≡ true → P.along a w ≢ P.none → P.better (P.along b w) (P.along a w) ≡ true

pub record Selects (P : Property) : Type 0 where
  pub along_selects : (v a w : ℕ) → P.better v a ≡ false → P.better v (P.along P.start w) ≡ false → P.better v (P.along a w) ≡ false

-- ---- by number

-- what holds for each of the five numbers holds for any
pub by_number : (Q : ℕ → Type 0) → Q 1 → Q 2 → Q 3 → Q 4 → Q 5 → (p : ℕ) → 0 < p → p ≤ properties → Q p
by_number Q a b c d e zero h k = absurd (omega arith)
by_number Q a b c d e (suc zero) h k = a
by_number Q a b c d e (suc (suc zero)) h k = b
by_number Q a b c d e (suc (suc (suc zero))) h k = c
by_number Q a b c d e (suc (suc (suc (suc zero)))) h k = d
by_number Q a b c d e (suc (suc (suc (suc (suc zero))))) h k = e
by_number Q a b c d e (suc (suc (suc (suc (suc (suc p)))))) h k = absurd (omega arith)

pub property_strict : (p : ℕ) → 0 < p → p ≤ 2 → Strict (property p)
unfolding property
property_strict zero h k = absurd (omega arith)
property_strict (suc zero) h k = omega tests
property_strict (suc (suc zero)) h k = omega tests
property_strict (suc (suc (suc p))) h k = absurd (omega arith)

pub property_selects : (p : ℕ) → 2 < p → Selects (property p)
unfolding property
property_selects zero h = absurd (omega arith)
property_selects (suc zero) h = absurd (omega arith)
property_selects (suc (suc zero)) h = absurd (omega arith)
property_selects (suc (suc (suc zero))) h = omega tests
property_selects (suc (suc (suc (suc zero)))) h = omega tests
property_selects (suc (suc (suc (suc (suc k))))) h = omega tests
