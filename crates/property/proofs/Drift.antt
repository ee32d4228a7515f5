-- What theorems about moved weights need of a property: the five are steady, and all but SSSP are even. Assumes nothing.
--
--   Meets P k    == two values of which each is no worse than something near the other are near
--   Steady P d k == near values stay near along one edge, and near weights lead from one value to near ones
--   Even P d k   == near values stay near along two edges of near weights
use Rattle.property.proofs.Basics.{◌≡◌, refl, ◌≢◌, false, ℕ, zero, suc, ◌+◌, arith}
use Rattle.property.specs.Property.{Property, property}
use Rattle.property.specs.Drift.{Near, slack}
use Rattle.property.proofs.Tests.{tests}

abbrev pub Meets : Property → ℕ → Type 0
Meets P k = (u v w x : ℕ) → Near k u v → P.better u w ≡ false → Near k x w → P.better x v ≡ false → Near k v w

pub record Steady (P : Property) (d k : ℕ) : Type 0 where
  pub along_near : (a b w : ℕ) → Near k a b → Near k (P.along a w) (P.along b w)
  pub weight_near : (a v w : ℕ) → Near d v w → Near k (P.along a v) (P.along a w)
  pub near_meets : Meets P k

pub record Even (P : Property) (d k : ℕ) : Type 0 where
  pub along_even : (a b v w : ℕ) → Near k a b → Near d v w → Near k (P.along a v) (P.along b w)
  pub near_meets : Meets P k

-- ---- near values

pub near_self : (k v : ℕ) → Near k v v
near_self k v = (omega arith, omega arith)

pub near_back : (k v w : ℕ) → Near k v w → Near k w v
near_back k v w (h, j) = (j, h)

pub near_on : (j k u v w : ℕ) → Near j u v → Near k v w → Near (j + k) u w
near_on j k u v w (a, b) (c, d) = (omega arith, omega arith)

-- ---- by number

even_steady : {P : Property} {d k : ℕ} → Even P d k → Steady P d k
even_steady {d = d} {k = k} E = record {
  along_near = λ a b w h. E.along_even a b w w h (near_self d w);
  weight_near = λ a v w h. E.along_even a a v w (near_self k a) h;
  near_meets = E.near_meets;
}

pub property_even : (p d : ℕ) → p ≢ 1 → Even (property p) d (slack p d)
unfolding property slack
property_even zero d h = omega tests
property_even (suc zero) d h = absurd (h refl)
property_even (suc (suc zero)) d h = omega tests
property_even (suc (suc (suc zero))) d h = omega tests
property_even (suc (suc (suc (suc zero)))) d h = omega tests
property_even (suc (suc (suc (suc (suc k))))) d h = omega tests

-- a sum that stops at M is no steeper than the sum
pub property_steady : (p d : ℕ) → Steady (property p) d (slack p d)
unfolding property slack
property_steady zero d = even_steady (property_even 0 d (λ e. omega arith))
property_steady (suc zero) d = omega tests
property_steady (suc (suc p)) d = even_steady (property_even (suc (suc p)) d (λ e. omega arith))

-- moves that add up let values move as far as all of them together
pub slack_adds : (p d e : ℕ) → slack p (d + e) ≡ slack p d + slack p e
unfolding slack
slack_adds zero d e = refl
slack_adds (suc zero) d e = refl
slack_adds (suc (suc zero)) d e = refl
slack_adds (suc (suc (suc zero))) d e = refl
slack_adds (suc (suc (suc (suc zero)))) d e = refl
slack_adds (suc (suc (suc (suc (suc k))))) d e = refl
