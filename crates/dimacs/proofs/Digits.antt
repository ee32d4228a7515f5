-- Printing and reading numbers: each undoes the other. Assumes nothing.
use Rattle.property.proofs.Basics.{◌≡◌, refl, ap, ◌∙◌, Bool, true, false, not, List, [], ◌∷◌, ◌++◌, append_assoc, some, ℕ, zero, suc, ◌+◌, ◌-◌, ◌*◌, ◌/◌, ◌%◌, ◌≤◌, ◌<◌, arith, ltb, leb, eqb, lt-ltb, le-ltb, le-leb, ltb-true, ltb-false, leb-true, eqb-true, eqb-false, ne_eqb, not-true}
use lib.Arith.{digits_div, digits_mod}
use Rattle.property.proofs.Tests.{by_test}
use Rattle.graph.proofs.Tests.{both}
use Rattle.dimacs.proofs.Options.{none_some, some_same}
use Rattle.dimacs.specs.Decimal.{digits_by, digits, is_digit, scan, number}

-- the bound on the number of digits does not matter where it is no less than the number
fuel : (j k v : ℕ) (b : Bool) → ltb v 10 ≡ b → v ≤ j → v ≤ k → digits_by j b v ≡ digits_by k b v
unfolding digits_by
fuel zero zero v b h hj hk = refl
fuel zero (suc k) v true h hj hk = refl
fuel zero (suc k) v false h hj hk = absurd (omega (arith, ltb-false v 10 h))
fuel (suc j) zero v true h hj hk = refl
fuel (suc j) zero v false h hj hk = absurd (omega (arith, ltb-false v 10 h))
fuel (suc j) (suc k) v true h hj hk = refl
fuel (suc j) (suc k) v false h hj hk =
    let big : 10 ≤ v = ltb-false v 10 h in
    rw (fuel j k (v / 10) (ltb (v / 10) 10) refl (omega arith) (omega arith))

pub digits_small : (v : ℕ) → v < 10 → digits v ≡ (48 + v) ∷ []
unfolding digits digits_by
digits_small zero h = refl
digits_small (suc v) h = rw (lt-ltb (suc v) 10 h)

pub digits_big : (v : ℕ) → 10 ≤ v → digits v ≡ digits (v / 10) ++ ((48 + v % 10) ∷ [])
unfolding digits digits_by
digits_big zero h = absurd (omega arith)
digits_big (suc v) h = rw (le-ltb (suc v) 10 h, fuel v (suc v / 10) (suc v / 10) (ltb (suc v / 10) 10) refl (omega arith) (omega arith))

-- one digit more at the end
pub digits_more : (v d : ℕ) → 0 < v → d < 10 → digits (v * 10 + d) ≡ digits v ++ ((48 + d) ∷ [])
digits_more v d hv hd = digits_big (v * 10 + d) (omega arith) ∙ rw (digits_div v {m = 10} hd, digits_mod v {m = 10} hd)

pub digit_is : (d : ℕ) → d < 10 → is_digit (48 + d) ≡ true
unfolding is_digit
digit_is d h = rw (le-leb 48 (48 + d) (omega arith), le-leb (48 + d) 57 (omega arith))

pub is_digit_lem : (b : ℕ) → is_digit b ≡ true → (48 ≤ b) × (b ≤ 57)
unfolding is_digit
is_digit_lem b h = let (p, q) = both (leb 48 b) (leb b 57) h in (leb-true 48 b p, leb-true b 57 q)

-- ---- the digits at the front, one by one

pub scan_digit : (v b : ℕ) (s : List ℕ) → is_digit b ≡ true → scan v (b ∷ s) ≡ scan (v * 10 + (b - 48)) s
unfolding scan
scan_digit v b s e = rw e

pub scan_other : (v b : ℕ) (s : List ℕ) → is_digit b ≡ false → scan v (b ∷ s) ≡ (v, b ∷ s)
unfolding scan
scan_other v b s e = rw e

-- nothing that follows a number can be its next digit
unfoldable pub stops : List ℕ → Bool
stops [] = true
stops (b ∷ s) = not (is_digit b)

pub scan_stops : (v : ℕ) (s : List ℕ) → stops s ≡ true → scan v s ≡ (v, s)
unfolding scan stops
scan_stops v [] h = refl
scan_stops v (b ∷ s) h = scan_other v b s (not-true (is_digit b) h)

-- ---- what is read is printed so

-- a digit at the front of s belongs to the number before it
digits_take : (v b : ℕ) (s : List ℕ) → 0 < v → is_digit b ≡ true → digits v ++ (b ∷ s) ≡ digits (v * 10 + (b - 48)) ++ s
digits_take v b s h e =
    let (p, q) = is_digit_lem b e in
    let w : 48 + (b - 48) ≡ b = omega arith in
    rw (digits_more v (b - 48) h (omega arith), append_assoc, w)

pub scan_spells : (v : ℕ) (s : List ℕ) → 0 < v → digits v ++ s ≡ digits (scan v s).0 ++ (scan v s).1
unfolding scan
scan_spells v [] h = refl
scan_spells v (b ∷ s) h = by_test (is_digit b) (λ e. rw e (digits_take v b s h e ∙ scan_spells (v * 10 + (b - 48)) s (omega arith))) (λ e. rw e)

pub number_spells : (s r : List ℕ) (v : ℕ) → number s ≡ some (v, r) → s ≡ digits v ++ r
unfolding number
number_spells [] r v h = absurd (none_some h)
number_spells (b ∷ s) r v h = by_test (eqb b 48)
    (λ e.
    let q : ◌≡◌ {A = ℕ × List ℕ} (0, s) (v, r) = some_same (rw e at h) in
    let z : 0 ≡ v = ap (λ (x : ℕ × List ℕ). x.0) q in
    rw (← z, digits_small 0 (omega arith), eqb-true b 48 e, ap (λ (x : ℕ × List ℕ). x.1) q))
    (λ e. by_test (is_digit b) (λ f. digit f (eqb-false b 48 e) (some_same (rw (e, f) at h))) (λ f. absurd (none_some (rw (e, f) at h))))
  where
    digit : is_digit b ≡ true → (b ≡ 48 → ⊥) → scan (b - 48) s ≡ (v, r) → b ∷ s ≡ digits v ++ r
    digit e d q =
        let (x, y) = is_digit_lem b e in
        let w : 48 + (b - 48) ≡ b = omega arith in
        rw (digits_small (b - 48) (omega arith), w, q) at (scan_spells (b - 48) s (omega arith))

-- ---- printed numbers are read back

number_small : (v : ℕ) (s : List ℕ) → v < 10 → 0 < v → number (digits v ++ s) ≡ some (scan v s)
unfolding number
number_small v s l h =
    let e : 48 + v - 48 ≡ v = omega arith in
    rw (digits_small v l, ne_eqb (48 + v) 48 (λ z. omega arith), digit_is v l, e)

number_in : (k v : ℕ) (s : List ℕ) → v ≤ k → 0 < v → number (digits v ++ s) ≡ some (scan v s)
number_in zero v s h hv = absurd (omega arith)
number_in (suc k) v s h hv = by_test (ltb v 10)
    (λ e. number_small v s (ltb-true v 10 e) hv)
    (λ e. let l : 10 ≤ v = ltb-false v 10 e in
    let w : v / 10 * 10 + (48 + v % 10 - 48) ≡ v = omega arith in
    rw (digits_big v l, append_assoc) (number_in k (v / 10) ((48 + v % 10) ∷ s) (omega arith) (omega arith) ∙ rw (scan_digit (v / 10) (48 + v % 10) s (digit_is (v % 10) (omega arith)), w)))

pub number_digits : (v : ℕ) (s : List ℕ) → stops s ≡ true → number (digits v ++ s) ≡ some (v, s)
unfolding number
number_digits zero s h = rw (digits_small 0 (omega arith))
number_digits (suc v) s h = number_in (suc v) (suc v) s (omega arith) (omega arith) ∙ rw (scan_stops (suc v) s h)
