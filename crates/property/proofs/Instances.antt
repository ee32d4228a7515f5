-- The laws of the five properties and of `property p` for every number p, so that nothing above looks into a property; and
-- that no sum wraps. Assumes nothing.
use Rattle.property.proofs.Basics.{◌≡◌, refl, ℕ, zero, suc, ◌+◌, ◌≤◌, ◌<◌}
use Rattle.property.specs.Property.{M, Property, plus, sssp, bfs, sswp, ssnp, ssr, property}
use Rattle.property.specs.Laws.{Laws, Joins}
use Rattle.property.proofs.Tests.{tests}

-- ---- by number

-- what holds for each of the five properties holds for that of any number
pub by_property : (Q : Property → Type 0) → Q sssp → Q bfs → Q sswp → Q ssnp → Q ssr → (p : ℕ) → Q (property p)
unfolding property
by_property Q a b c d e zero = e
by_property Q a b c d e (suc zero) = a
by_property Q a b c d e (suc (suc zero)) = b
by_property Q a b c d e (suc (suc (suc zero))) = c
by_property Q a b c d e (suc (suc (suc (suc zero)))) = d
by_property Q a b c d e (suc (suc (suc (suc (suc k))))) = e

pub bfs_laws : Laws bfs
bfs_laws = omega tests

pub property_laws : (p : ℕ) → Laws (property p)
property_laws = by_property Laws (omega tests) bfs_laws (omega tests) (omega tests) (omega tests)

pub bfs_joins : Joins bfs
bfs_joins = omega tests

pub property_joins : (p : ℕ) → Joins (property p)
property_joins = by_property Joins (omega tests) bfs_joins (omega tests) (omega tests) (omega tests)

-- the numbers of a `match` with arms for 1 to 4 ..
pub property_arms : (property 1 ≡ sssp) × (property 2 ≡ bfs) × (property 3 ≡ sswp) × (property 4 ≡ ssnp)
unfolding property
property_arms = (refl, refl, refl, refl)

-- .. and one that it leaves over
pub property_rest : (p : ℕ) → (((Unit {0} × (p ≡ 1 → ⊥)) × (p ≡ 2 → ⊥)) × (p ≡ 3 → ⊥)) × (p ≡ 4 → ⊥) → property p ≡ ssr
unfolding property
property_rest zero h = refl
property_rest (suc zero) h = absurd (h.0.0.0.1 refl)
property_rest (suc (suc zero)) h = absurd (h.0.0.1 refl)
property_rest (suc (suc (suc zero))) h = absurd (h.0.1 refl)
property_rest (suc (suc (suc (suc zero)))) h = absurd (h.1 refl)
property_rest (suc (suc (suc (suc (suc k))))) h = refl

-- ---- no sum wraps

-- "A sum above 4,294,967,294 is M", and any other is the sum
pub plus_above : (a b : ℕ) → 4294967294 < a + b → plus a b ≡ M
plus_above = omega tests

pub plus_exact : (a b : ℕ) → a + b ≤ 4294967294 → plus a b ≡ a + b
plus_exact = omega tests

-- r is a word and no less than a and b: where it is their sum, it was not wrapped
abbrev pub Unwrapped : ℕ → ℕ → ℕ → Type 0
Unwrapped a b r = (a ≤ r) × (b ≤ r) × (r ≤ M)

pub plus_no_wrap : (a b : ℕ) → a ≤ M → b ≤ M → Unwrapped a b (plus a b)
plus_no_wrap = omega tests
