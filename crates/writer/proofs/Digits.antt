-- Numbers in base ten from the last digit to the first. Assumes nothing.
use Rattle.property.proofs.Basics.{◌≡◌, refl, ◌∙◌, List, [], ◌∷◌, ◌++◌, ℕ, zero, suc, ◌+◌, ◌/◌, ◌%◌, ◌≤◌, ◌<◌, arith, ltb, length, length-append, ltb-true, ltb-false}
use Rattle.property.proofs.Tests.{by_test}
use Rattle.dimacs.specs.Decimal.{digits}
use Rattle.dimacs.proofs.Digits.{digits_small, digits_big}
use Rattle.dimacs.proofs.Widths.{width_big}

-- ---- the last k digits

unfoldable pub pad : ℕ → ℕ → List ℕ
pad zero v = []
pad (suc k) v = pad k (v / 10) ++ ((48 + v % 10) ∷ [])

pub length_pad : (k v : ℕ) → length (pad k v) ≡ k
unfolding pad
length_pad zero v = refl
length_pad (suc k) v = length-append (pad k (v / 10)) ((48 + v % 10) ∷ []) ∙ omega (arith, length_pad k (v / 10))

pad_in : (j v : ℕ) → v ≤ j → digits v ≡ pad (length (digits v)) v
unfolding pad
pad_in zero v h =
    let e : v % 10 ≡ v = omega arith in
    rw (digits_small v (omega arith), e)
pad_in (suc j) v h = by_test (ltb v 10)
    (λ b.
    let l : v < 10 = ltb-true v 10 b in
    let e : v % 10 ≡ v = omega arith in
    rw (digits_small v l, e))
    (λ b.
    let l : 10 ≤ v = ltb-false v 10 b in
    rw (width_big v l, digits_big v l, ← pad_in j (v / 10) (omega arith)))

pub digits_pad : (v : ℕ) → digits v ≡ pad (length (digits v)) v
digits_pad v = pad_in v v (omega arith)
