-- Numbers after single spaces: one more, and how many bytes they take. Assumes nothing.
use Rattle.property.proofs.Basics.{◌≡◌, ap, List, [], ◌∷◌, ◌++◌, ℕ, ◌+◌, ◌^◌, ◌≤◌, ◌<◌, add-one, arith, length, get_or, drop, length-append, drop_of_length-le, drop-cons}
use Rattle.dimacs.specs.Decimal.{digits}
use Rattle.dimacs.specs.Lines.{fields_of}
use Rattle.dimacs.proofs.Widths.{width_most}

pub fields_more : (vs : List ℕ) (i : ℕ) → i < length vs → fields_of (drop i vs) ≡ (32 ∷ digits (get_or vs i 0)) ++ fields_of (drop (i + 1) vs)
unfolding fields_of
fields_more vs i l = rw (drop-cons vs i 0 l, add-one)

pub fields_none : (vs : List ℕ) (i : ℕ) → length vs ≤ i → fields_of (drop i vs) ≡ []
unfolding fields_of
fields_none vs i l = rw (drop_of_length-le vs {i = i} l)

-- ---- how many bytes

-- a word of 64 bits has at most 20 digits
pub width_word : (v : ℕ) → v < 2 ^ 64 → length (digits v) ≤ 20
width_word v h = width_most 19 v (omega arith)

pub fields_sum : (vs : List ℕ) (i s z : ℕ) → i < length vs → s + length (fields_of (drop i vs)) ≡ z → s + (1 + length (digits (get_or vs i 0))) + length (fields_of (drop (i + 1) vs)) ≡ z
fields_sum vs i s z l h = omega (arith, length-append (32 ∷ digits (get_or vs i 0)) (fields_of (drop (i + 1) vs)), ap length (fields_more vs i l))

pub fields_all : (vs : List ℕ) (i s z : ℕ) → length vs ≤ i → s + length (fields_of (drop i vs)) ≡ z → s ≡ z
fields_all vs i s z l h = omega (arith, ap length (fields_none vs i l))
