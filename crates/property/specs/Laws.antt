-- What theorems about routes and runs need of a property. They take these laws and never look into a property. Assumes nothing.
--
-- "a is no worse than b" is written `better b a ≡ false`. Words are at most M.
--
--   Laws P    == better is a strict total order; going along keeps it and never betters; no route leads on to no route,
--                and is no better than any word; a weight that is not worse leads to no worse a value, and one that is worse shows
--   Joins P   == edges may be gone along in either order, and joining is going along from the value joined
use Rattle.std.specs.Prelude.{◌≡◌, false, true, ℕ, ◌≤◌}
use Rattle.property.specs.Property.{Property, M}

pub record Laws (P : Property) : Type 0 where
  pub irreflexive : (a : ℕ) → P.better a a ≡ false
  pub asymmetric : (a b : ℕ) → P.better a b ≡ true → P.better b a ≡ false
  pub transitive : (a b c : ℕ) → P.better b a ≡ false → P.better c b ≡ false → P.better c a ≡ false
  pub antisymmetric : (a b : ℕ) → P.better a b ≡ false → P.better b a ≡ false → a ≡ b
  pub along_monotone : (a b w : ℕ) → P.better b a ≡ false → P.better (P.along b w) (P.along a w) ≡ false
  pub along_no_better : (a w : ℕ) → a ≤ M → P.better (P.along a w) a ≡ false
  pub along_none : (w : ℕ) → w ≤ M → P.along P.none w ≡ P.none
  pub along_fits : (a w : ℕ) → a ≤ M → w ≤ M → P.along a w ≤ M
  pub start_fits : P.start ≤ M
  pub none_fits : P.none ≤ M
  pub none_worst : (a : ℕ) → a ≤ M → P.better P.none a ≡ false
  pub worse_irreflexive : (w : ℕ) → P.worse w w ≡ false
  pub worse_along : (v a b : ℕ) → P.worse a b ≡ false → P.better (P.along v b) (P.along v a) ≡ false
  pub worse_shows : (a b : ℕ) → a ≤ M → b ≤ M → P.worse a b ≡ true → P.better (P.along P.start b) (P.along P.start a) ≡ true

pub record Joins (P : Property) : Type 0 where
  pub along_swaps : (a v w : ℕ) → P.along (P.along a v) w ≡ P.along (P.along a w) v
  pub join_start : (a : ℕ) → a ≤ M → P.better a P.start ≡ false → P.join a P.start ≡ a
  pub join_along : (a b w : ℕ) → P.join a (P.along b w) ≡ P.along (P.join a b) w
  pub join_monotone : (a b c : ℕ) → P.better c b ≡ false → P.better (P.join a c) (P.join a b) ≡ false
  pub join_none : (b : ℕ) → b ≤ M → P.join P.none b ≡ P.none
  pub none_join : (a : ℕ) → a ≤ M → P.join a P.none ≡ P.none
  pub join_fits : (a b : ℕ) → a ≤ M → b ≤ M → P.join a b ≤ M
