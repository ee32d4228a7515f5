-- One word of n bits: what `|`, `&` and the count of trailing zeros have to do with the list of its bits, `bits_of n w`.
-- Laws are for any width n, by induction on it. Assumes nothing.
use Rattle.std.specs.Prelude.{Some}
use Rattle.property.proofs.Basics.{◌≡◌, refl, sym, ap, ap₂, ◌∙◌, Bool, true, false, List, ◌∷◌, ◌++◌, ℕ, zero, suc, ◌+◌, ◌-◌, ◌*◌, ◌/◌, ◌%◌, ◌^◌, ◌≤◌, ◌<◌, min, max, not-suc-le-zero, le_of_suc-le-suc, add-zero, pow-suc, add-one, arith, eqb, length, get_or, set, drop}
use native.Mathlib.Nat.{le-mul_of_pos_right, mul_comm, mul-sub, div-one}
use native.Mathlib.Numerals.{one-add}
use lib.Arith.{digits_mod}
use lib.Pow.{pow-sub-lt, pow_pos, pow_mono, pow-lt, shr-shr, field, mod-mod-pow}
use lib.Bits.{bit_and, bit_or, and_step, or_step, and_shr, or_shr, or_zero_r, and_mask}
use lib.Count.{count_trailing_zeros, under}
use Rattle.frontier.specs.Waiting.{odd, bits_of, seek}

pub bits_length : (n w : ℕ) → length (bits_of n w) ≡ n
unfolding bits_of
bits_length zero w = refl
bits_length (suc n) w = ap suc (bits_length n (w / 2))

-- ---- `|` and `&`, from the lowest bit up

or_lowest : (a b : ℕ) → bit_or a b % 2 ≡ max (a % 2) (b % 2)
or_lowest a b = omega (arith, or_step a b)

and_lowest : (a b : ℕ) → bit_and a b % 2 ≡ min (a % 2) (b % 2)
and_lowest a b = omega (arith, and_step a b)

-- the lowest bit of a word and the bits of its half, each replaced by what it equals
step : (n : ℕ) {d e x y : ℕ} → d ≡ e → x ≡ y → ◌≡◌ {A = List Bool} (eqb d 1 ∷ bits_of n x) (eqb e 1 ∷ bits_of n y)
step n p q = ap₂ (λ (d x : ℕ). eqb d 1 ∷ bits_of n x) p q

-- `w | (1 << j)`
pub bits_or : (n j w : ℕ) → j < n → bits_of n (bit_or w (2 ^ j)) ≡ set (bits_of n w) j true
unfolding bits_of
bits_or zero j w h = absurd (not-suc-le-zero h)
bits_or (suc n) zero w h =
    let d : bit_or w 1 % 2 ≡ 1 = omega (arith, or_lowest w 1) in
    step n d (or_shr w 1 1 ∙ or_zero_r (w / 2))
bits_or (suc n) (suc j) w h =
    let d : bit_or w (2 ^ suc j) % 2 ≡ w % 2 = omega (arith, or_lowest w (2 ^ suc j), pow-suc 2 j) in
    let r : 2 ^ suc j / 2 ≡ 2 ^ j = omega (arith, pow-suc 2 j) in
    step n d (or_shr w (2 ^ suc j) 1 ∙ ap (bit_or (w / 2)) r)
    ∙ ap (λ (l : List Bool). odd w ∷ l) (bits_or n j (w / 2) (le_of_suc-le-suc h))

-- what stands above the n lowest bits is not seen
bits_mod : (n w : ℕ) → bits_of n (w % 2 ^ n) ≡ bits_of n w
unfolding bits_of
bits_mod zero w = refl
bits_mod (suc n) w =
    step n
    (ap (λ (k : ℕ). w % 2 ^ k % 2) (sym (add-one n)) ∙ mod-mod-pow w n 1)
    (ap (λ (k : ℕ). w % 2 ^ k / 2) (sym (add-one n)) ∙ field w n 1)
    ∙ ap (λ (l : List Bool). odd w ∷ l) (bits_mod n (w / 2))

-- `w & MAX`
bits_and_ones : (n w : ℕ) → bits_of n (bit_and w (2 ^ n - 1)) ≡ bits_of n w
bits_and_ones n w = ap (bits_of n) (and_mask w n) ∙ bits_mod n w

-- `w & !(1 << j)`
pub bits_and_not : (n j w : ℕ) → j < n → bits_of n (bit_and w ((2 ^ n - 1) - 2 ^ j)) ≡ set (bits_of n w) j false
unfolding bits_of
bits_and_not zero j w h = absurd (not-suc-le-zero h)
bits_and_not (suc n) zero w h =
    let m = (2 ^ suc n - 1) - 1 in
    let e : m % 2 ≡ 0 = omega (arith, pow-suc 2 n, pow_pos n) in
    let d : bit_and w m % 2 ≡ 0 = omega (arith, and_lowest w m) in
    let r : m / 2 ≡ 2 ^ n - 1 = omega (arith, pow-suc 2 n, pow_pos n) in
    step n d (and_shr w m 1 ∙ ap (bit_and (w / 2)) r) ∙ ap (λ (l : List Bool). false ∷ l) (bits_and_ones n (w / 2))
bits_and_not (suc n) (suc j) w h =
    let m = (2 ^ suc n - 1) - 2 ^ suc j in
    let l : 2 ^ j < 2 ^ n = pow-lt (le_of_suc-le-suc h) in
    let e : m % 2 ≡ 1 = omega (arith, pow-suc 2 n, pow-suc 2 j) in
    let d : bit_and w m % 2 ≡ w % 2 = omega (arith, and_lowest w m) in
    let r : m / 2 ≡ (2 ^ n - 1) - 2 ^ j = omega (arith, pow-suc 2 n, pow-suc 2 j) in
    step n d (and_shr w m 1 ∙ ap (bit_and (w / 2)) r)
    ∙ ap (λ (l : List Bool). odd w ∷ l) (bits_and_not n j (w / 2) (le_of_suc-le-suc h))

-- `(w >> j) & 1`
pub bits_at : (n j w : ℕ) → j < n → get_or (bits_of n w) j false ≡ odd (w / 2 ^ j)
unfolding bits_of
bits_at zero j w h = absurd (not-suc-le-zero h)
bits_at (suc n) zero w h = ap odd (sym (div-one w))
bits_at (suc n) (suc j) w h =
    bits_at n j (w / 2) (le_of_suc-le-suc h) ∙ ap odd (shr-shr w 1 j ∙ ap (λ (k : ℕ). w / 2 ^ k) (one-add j))

-- ---- the lowest set bit

-- `MAX << j`
pub high_mask : (n j : ℕ) → j < n → (2 ^ n - 1) * 2 ^ j % 2 ^ n ≡ 2 ^ n - 2 ^ j
high_mask n j h =
    let m = 2 ^ n in
    let p = 2 ^ j in
    let e : (m - 1) * p ≡ (p - 1) * m + (m - p) =
    omega (arith, mul_comm (m - 1) p, mul-sub p m 1, mul_comm (p - 1) m, mul-sub m p 1, mul_comm m p, le-mul_of_pos_right m (pow_pos j), pow-lt h) in
    ap (λ (x : ℕ). x % m) e ∙ digits_mod (p - 1) {m = m} (pow-sub-lt n (pow_pos j))

-- `w & (MAX << j)`: with the bits below j masked, the first bit of all is the first that w has from j on
pub seek_mask : (n j i w : ℕ) (l : List Bool) → j ≤ n → seek i (bits_of n (bit_and w (2 ^ n - 2 ^ j)) ++ l) ≡ seek (i + j) (drop j (bits_of n w) ++ l)
unfolding bits_of seek
seek_mask n zero i w l h = ap₂ (λ (k : ℕ) (x : List Bool). seek k (x ++ l)) (sym (add-zero i)) (bits_and_ones n w)
seek_mask zero (suc j) i w l h = absurd (not-suc-le-zero h)
seek_mask (suc n) (suc j) i w l h =
    let m = 2 ^ suc n - 2 ^ suc j in
    let g : 2 ^ j ≤ 2 ^ n = pow_mono (le_of_suc-le-suc h) in
    let e : m % 2 ≡ 0 = omega (arith, pow-suc 2 n, pow-suc 2 j) in
    let d : bit_and w m % 2 ≡ 0 = omega (arith, and_lowest w m) in
    let r : m / 2 ≡ 2 ^ n - 2 ^ j = omega (arith, pow-suc 2 n, pow-suc 2 j) in
    let s : suc i + j ≡ i + suc j = omega arith in
    ap (λ (x : List Bool). seek i (x ++ l)) (step n d (and_shr w m 1 ∙ ap (bit_and (w / 2)) r))
    ∙ seek_mask n j (suc i) (w / 2) l (le_of_suc-le-suc h)
    ∙ ap (λ (k : ℕ). seek k (drop j (bits_of n (w / 2)) ++ l)) s

-- a word that is not 0 has its lowest set bit above its trailing zeros
pub seek_word : (n i w : ℕ) (l : List Bool) → 0 < w → w < 2 ^ n → seek i (bits_of n w ++ l) ≡ Some (i + count_trailing_zeros n w)
unfolding bits_of seek count_trailing_zeros
seek_word zero i w l p b = absurd (omega arith)
seek_word (suc n) i w l p b =
    go (w % 2) refl (λ q. seek_word n (suc i) (w / 2) l q (omega (arith, pow-suc 2 n)))
  where
    go : (d : ℕ) → w % 2 ≡ d
        → (0 < w / 2 → seek (suc i) (bits_of n (w / 2) ++ l) ≡ Some (suc i + count_trailing_zeros n (w / 2)))
        → seek i (eqb d 1 ∷ bits_of n (w / 2) ++ l) ≡ Some (i + under d (count_trailing_zeros n (w / 2)))
    go zero e rest = rest (omega arith) ∙ ap Some (omega arith)
    go (suc zero) e rest = ap Some (sym (add-zero i))
    go (suc (suc d)) e rest = absurd (omega arith)

-- a word that is 0 has none
pub seek_zero : (n i : ℕ) (l : List Bool) → seek i (bits_of n 0 ++ l) ≡ seek (i + n) l
unfolding bits_of seek
seek_zero zero i l = ap (λ (k : ℕ). seek k l) (sym (add-zero i))
seek_zero (suc n) i l = seek_zero n (suc i) l ∙ ap (λ (k : ℕ). seek k l) (omega arith)
