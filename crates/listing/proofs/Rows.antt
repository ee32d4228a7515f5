-- The lines of a source by its five rows of settled words. Assumes nothing.
use Rattle.property.proofs.Basics.{◌≡◌, refl, sym, ap, ◌∙◌, false, List, [], ◌∷◌, ◌++◌, map, ℕ, zero, suc, ◌+◌, ◌-◌, ◌*◌, ◌^◌, ◌≤◌, ◌<◌, add-one, arith, ltb, ltb-true, ltb-false, length, get_or, take, length-append, length-take-le, get_or-take, get_or-append}
use lib.Seq.{get_or-append-add}
use borrow.Rule.Slice.PartMut.{put_mid}
use Rattle.property.proofs.Tests.{by_test}
use Rattle.property.specs.Property.{property, properties}
use Rattle.graph.specs.Edge.{range}
use Rattle.calls.proofs.Rows.{row_ends}
use Rattle.graph.specs.Limits.{max_vertices}
use Rattle.graph.proofs.Lists.{get_or_within}
use Rattle.network.specs.Network.{Network}
use Rattle.dimacs.specs.Decimal.{digits}
use Rattle.dimacs.specs.Lines.{fields_of}
use Rattle.dimacs.proofs.Widths.{width_most}
use Rattle.writer.proofs.Fields.{width_word}
use Rattle.listing.specs.Listing.{Graph, landmarks_of, value_at, spaced, line_of, lines_of}
use Rattle.listing.specs.Code.{max_line, settled_row, rows_line, rows_lines}

-- ---- rows one after the other

-- each of the first p rows of n words is that of f
abbrev pub Filled : (ℕ → List ℕ) → ℕ → ℕ → List ℕ → Type 0
Filled f n p xs = (r : ℕ) → r < p → (length (f r) ≡ n) × ((t : ℕ) → t < n → get_or xs (r * n + t) 0 ≡ get_or (f r) t 0)

pub filled_turn : (f : ℕ → List ℕ) (n p k : ℕ) (xs ys : List ℕ) → p * n + n ≤ length xs → length ys ≡ n → ys ≡ f p → Filled f n p xs → Filled f n (p + 1) (put_mid (p * n) k xs ys)
filled_turn f n p k xs ys h l e i r hr = by_test (ltb r p) (λ b. before (ltb-true r p b)) (λ b. (rw (last b) (sym (ap length e) ∙ l), λ t ht. this t ht (last b)))
  where
    front : length (take (p * n) xs) ≡ p * n
    front = length-take-le (p * n) xs (omega arith)

    before : r < p → (length (f r) ≡ n) × ((t : ℕ) → t < n → get_or (put_mid (p * n) k xs ys) (r * n + t) 0 ≡ get_or (f r) t 0)
    before b =
        let m = row_ends r p n (p * n) b (omega arith) in
        let (u, v) = i r b in
        (u, λ t ht. get_or-append (take (p * n) xs) _ 0 (r * n + t) (omega (arith, front)) ∙ get_or-take (p * n) xs (r * n + t) 0 (omega arith) ∙ v t ht)

    last : ltb r p ≡ false → r ≡ p
    last b = omega (arith, ltb-false r p b)

    this : (t : ℕ) → t < n → r ≡ p → get_or (put_mid (p * n) k xs ys) (r * n + t) 0 ≡ get_or (f r) t 0
    this t ht q =
        rw q
        (ap (λ (j : ℕ). get_or (put_mid (p * n) k xs ys) (j + t) 0) (sym front)
        ∙ get_or-append-add (take (p * n) xs) _ t 0
        ∙ get_or-append ys _ 0 t (omega arith)
        ∙ ap (λ (x : List ℕ). get_or x t 0) e)

-- ---- one line

five : {v₁ v₂ v₃ v₄ v₅ w₁ w₂ w₃ w₄ w₅ : ℕ} → v₁ ≡ w₁ → v₂ ≡ w₂ → v₃ ≡ w₃ → v₄ ≡ w₄ → v₅ ≡ w₅ → v₁ ∷ v₂ ∷ v₃ ∷ v₄ ∷ v₅ ∷ [] ≡ w₁ ∷ w₂ ∷ w₃ ∷ w₄ ∷ w₅ ∷ []
five h₁ h₂ h₃ h₄ h₅ = cc

-- the line by the numbers that are put
pub line_fields : (s t n : ℕ) (xs : List ℕ) {v₁ v₂ v₃ v₄ v₅ : ℕ} → v₁ ≡ get_or xs (0 * n + t) 0 → v₂ ≡ get_or xs (1 * n + t) 0 → v₃ ≡ get_or xs (2 * n + t) 0 → v₄ ≡ get_or xs (3 * n + t) 0 → v₅ ≡ get_or xs (4 * n + t) 0
    → rows_line s t n xs ≡ digits (s + 1) ++ fields_of ((t + 1) ∷ v₁ ∷ v₂ ∷ v₃ ∷ v₄ ∷ v₅ ∷ []) ++ (10 ∷ [])
unfolding spaced range
line_fields s t n xs h₁ h₂ h₃ h₄ h₅ = rw (add-one s, add-one t) (ap (λ (vs : List ℕ). spaced (suc s ∷ suc t ∷ vs)) (sym (five h₁ h₂ h₃ h₄ h₅)))

-- ---- how many bytes

abbrev pub Words : List ℕ → Type 0
Words xs = (i : ℕ) → get_or xs i 0 < 2 ^ 32

-- ten digits are enough for a word and for the number after it
width_ten : (v : ℕ) → v ≤ 2 ^ 32 → length (digits v) ≤ 10
width_ten v h = width_most 9 v (omega arith)

field_most : (v : ℕ) (vs : List ℕ) (k : ℕ) → v ≤ 2 ^ 32 → length (fields_of vs) ≤ k → length (fields_of (v ∷ vs)) ≤ 11 + k
unfolding fields_of
field_most v vs k h l = omega (arith, length-append (digits v) (fields_of vs), width_ten v h)

module _ (s n : ℕ) (xs : List ℕ) (hs : s < 2 ^ 32) (h : Words xs) where
  words_most : (t : ℕ) (rs : List ℕ) → length (fields_of (map (λ p. get_or xs (p * n + t) 0) rs)) ≤ 11 * length rs
  unfolding fields_of
  words_most t [] = omega arith
  words_most t (r ∷ rs) = omega (arith, field_most (get_or xs (r * n + t) 0) (map (λ p. get_or xs (p * n + t) 0) rs) (11 * length rs) (omega (arith, h (r * n + t))) (words_most t rs))

  line_most : (t : ℕ) → t < 2 ^ 32 → length (rows_line s t n xs) ≤ max_line
  unfolding spaced range
  line_most t ht =
      let vs : List ℕ = map (λ p. get_or xs (p * n + t) 0) (range 0 properties) in
      omega (
        arith,
        length-append (digits (suc s) ++ fields_of (suc t ∷ vs)) (10 ∷ []),
        length-append (digits (suc s)) (fields_of (suc t ∷ vs)),
        field_most (suc t) vs 55 (omega arith) (words_most t (range 0 properties)),
        width_ten (suc s) (omega arith),
      )

  pub lines_most : (k t : ℕ) → t + k ≤ max_vertices → length (rows_lines s n xs (range t k)) ≤ max_line * k
  unfolding rows_lines range
  lines_most zero t l = omega arith
  lines_most (suc k) t l = omega (arith, length-append (rows_line s t n xs) (rows_lines s n xs (range (suc t) k)), line_most t (omega arith), lines_most k (suc t) (omega arith))

-- ---- the lines of a source

pub lines_more : (s n : ℕ) (xs : List ℕ) (t m : ℕ) → t < m → rows_lines s n xs (range t (m - t)) ≡ rows_line s t n xs ++ rows_lines s n xs (range (t + 1) (m - (t + 1)))
unfolding rows_lines range
lines_more s n xs t m l =
    let e : m - t ≡ suc (m - (t + 1)) = omega arith in
    rw (e, add-one t)

pub lines_done : (s n : ℕ) (xs : List ℕ) (t m : ℕ) → m ≤ t → rows_lines s n xs (range t (m - t)) ≡ []
unfolding rows_lines range
lines_done s n xs t m l =
    let e : m - t ≡ 0 = omega arith in
    rw e

-- the rows are those of the queries, so that the lines are those of the definition
module _ (g : Graph) (w : Network) (s : ℕ) (ls xs : List ℕ) (chosen : landmarks_of g ≡ ls) (filled : Filled (λ p. settled_row g.n ls w s (p + 1)) g.n properties xs) where
  value_row : (t p : ℕ) → t < g.n → p < properties → value_at g w s t (p + 1) ≡ get_or xs (p * g.n + t) 0
  value_row t p l h =
      let (a, b) = filled p h in
      ap (λ (v : List ℕ). get_or (settled_row g.n v w s (p + 1)) t (property (p + 1)).none) chosen
      ∙ get_or_within (settled_row g.n ls w s (p + 1)) t (property (p + 1)).none 0 (omega (arith, a))
      ∙ sym (b t l)

  line_rows : (t : ℕ) → t < g.n → line_of g w s t ≡ rows_line s t g.n xs
  unfolding line_of range
  line_rows t l =
      ap (λ (vs : List ℕ). spaced (suc s ∷ suc t ∷ vs))
      (five (value_row t 0 l (omega arith)) (value_row t 1 l (omega arith)) (value_row t 2 l (omega arith)) (value_row t 3 l (omega arith)) (value_row t 4 l (omega arith)))

  pub lines_rows : (k t : ℕ) → t + k ≤ g.n → lines_of g w s (range t k) ≡ rows_lines s g.n xs (range t k)
  unfolding lines_of rows_lines range
  lines_rows zero t l = refl
  lines_rows (suc k) t l = rw (line_rows t (omega arith), lines_rows k (suc t) (omega arith))

-- ---- the line of a refusal

pub refused_most : (k i : ℕ) → k < 2 ^ 64 → i < 2 ^ 64 → length ((114 ∷ 101 ∷ 102 ∷ 117 ∷ 115 ∷ 101 ∷ 100 ∷ []) ++ fields_of (k ∷ i ∷ []) ++ (10 ∷ [])) ≤ 50
unfolding fields_of
refused_most k i hk hi =
    omega (
      arith,
      length-append ((114 ∷ 101 ∷ 102 ∷ 117 ∷ 115 ∷ 101 ∷ 100 ∷ []) ++ fields_of (k ∷ i ∷ [])) (10 ∷ []),
      length-append (114 ∷ 101 ∷ 102 ∷ 117 ∷ 115 ∷ 101 ∷ 100 ∷ []) (fields_of (k ∷ i ∷ [])),
      length-append (digits k) (32 ∷ (digits i ++ [])),
      length-append (digits i) [],
      width_word k hk,
      width_word i hi,
    )
