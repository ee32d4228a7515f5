-- Words of n bits, one after the other: what is done to a word, said of the list of all bits, `bits_of_all n ws`. Bit j of word q stands at
-- q * n + j. Laws are for any width and any number of words. Assumes nothing.
use Rattle.property.proofs.Basics.{◌≡◌, sym, ap, ◌∙◌, Bool, true, false, List, [], ◌∷◌, ◌++◌, ℕ, zero, suc, ◌+◌, ◌-◌, ◌*◌, ◌/◌, ◌%◌, ◌^◌, ◌≤◌, ◌<◌, not-suc-le-zero, le_of_suc-le-suc, suc-mul, zero-mul, zero-add, suc-add, div-add-mod', mod-eq_of_lt, add-one, arith, eqb, length, get_or, set, drop, length-append, get_or-append, drop-cons, drop-drop, drop-append-le, drop-append-add, get_or-drop}
use native.Mathlib.Nat.{one-mul}
use lib.Pow.{pow-lt}
use lib.Bits.{bit_and, bit_or, and_mask}
use lib.Seq.{drop-nil, set-append_left}
use Rattle.frontier.specs.Waiting.{odd, bits_of, bits_of_all, waiting_of}
use Rattle.frontier.proofs.Word.{bits_length, bits_or, bits_and_not, bits_at}

pub bits_all_length : (n : ℕ) (ws : List ℕ) → length (bits_of_all n ws) ≡ length ws * n
unfolding bits_of_all
bits_all_length n [] = sym (zero-mul n)
bits_all_length n (w ∷ ws) = simp length-append (omega (arith, bits_length n w, bits_all_length n ws, suc-mul (length ws) n))

pub set_append_add : {A : Type 0} (xs ys : List A) (n : ℕ) (a : A) → set (xs ++ ys) (length xs + n) a ≡ xs ++ set ys n a
set_append_add [] ys n a = ap (λ (k : ℕ). set ys k a) (zero-add n)
set_append_add (x ∷ xs) ys n a =
    ap (λ (k : ℕ). set (x ∷ xs ++ ys) k a) (suc-add (length xs) n) ∙ ap {B = List _} (λ l. x ∷ l) (set_append_add xs ys n a)

-- a place of a later word
later : (n q j w : ℕ) → suc q * n + j ≡ length (bits_of n w) + (q * n + j)
later n q j w = omega (arith, suc-mul q n, bits_length n w)

module _ (n : ℕ) where
  -- the bits from word q on
  pub bits_all_drop : (ws : List ℕ) (q : ℕ) → drop (q * n) (bits_of_all n ws) ≡ bits_of_all n (drop q ws)
  unfolding bits_of_all
  bits_all_drop ws zero = ap (λ (k : ℕ). drop k (bits_of_all n ws)) (zero-mul n)
  bits_all_drop [] (suc q) = drop-nil (suc q * n)
  bits_all_drop (w ∷ ws) (suc q) =
      let e : suc q * n ≡ length (bits_of n w) + q * n = omega (arith, later n q 0 w) in
      ap (λ (k : ℕ). drop k (bits_of n w ++ bits_of_all n ws)) e
      ∙ drop-append-add (bits_of n w) (bits_of_all n ws) (q * n)
      ∙ bits_all_drop ws q

  module _ (ws : List ℕ) (q : ℕ) (h : q < length ws) where
    -- word q, and the words after it
    pub bits_all_word : bits_of_all n (drop q ws) ≡ bits_of n (get_or ws q 0) ++ bits_of_all n (drop (q + 1) ws)
    unfolding bits_of_all
    bits_all_word = rw (add-one, drop-cons ws q 0)

    -- the bits from bit j of word q on
    pub bits_all_from : (j : ℕ) → j ≤ n → drop (q * n + j) (bits_of_all n ws) ≡ drop j (bits_of n (get_or ws q 0)) ++ bits_of_all n (drop (q + 1) ws)
    bits_all_from j l =
        sym (drop-drop j (q * n) (bits_of_all n ws))
        ∙ ap (drop j) (bits_all_drop ws q ∙ bits_all_word)
        ∙ drop-append-le j (bits_of n (get_or ws q 0)) (bits_of_all n (drop (q + 1) ws)) (omega (arith, bits_length n (get_or ws q 0)))

    -- bit j of word q
    pub bits_all_at : (j : ℕ) → j < n → get_or (bits_of_all n ws) (q * n + j) false ≡ odd (get_or ws q 0 / 2 ^ j)
    bits_all_at j l =
        sym (get_or-drop (q * n) (bits_of_all n ws) j false)
        ∙ ap (λ (x : List Bool). get_or x j false) (bits_all_drop ws q ∙ bits_all_word)
        ∙ get_or-append (bits_of n (get_or ws q 0)) (bits_of_all n (drop (q + 1) ws)) false j (omega (arith, bits_length n (get_or ws q 0)))
        ∙ bits_at n j (get_or ws q 0) l

  -- a word that differs in bit j alone is stored at q
  pub bits_all_set : (ws : List ℕ) (q j v : ℕ) (b : Bool) → q < length ws → j < n
      → bits_of n v ≡ set (bits_of n (get_or ws q 0)) j b
      → bits_of_all n (set ws q v) ≡ set (bits_of_all n ws) (q * n + j) b
  unfolding bits_of_all
  bits_all_set [] q j v b h l e = absurd (not-suc-le-zero h)
  bits_all_set (w ∷ ws) zero j v b h l e =
      let z : j ≡ zero * n + j = omega (arith, zero-mul n) in
      ap (λ (x : List Bool). x ++ bits_of_all n ws) e
      ∙ sym (set-append_left (bits_of n w) (bits_of_all n ws) j b (omega (arith, bits_length n w)))
      ∙ ap (λ (k : ℕ). set (bits_of n w ++ bits_of_all n ws) k b) z
  bits_all_set (w ∷ ws) (suc q) j v b h l e =
      ap (λ (x : List Bool). bits_of n w ++ x) (bits_all_set ws q j v b (le_of_suc-le-suc h) l e)
      ∙ sym (set_append_add (bits_of n w) (bits_of_all n ws) (q * n + j) b)
      ∙ ap (λ (k : ℕ). set (bits_of n w ++ bits_of_all n ws) k b) (sym (later n q j w))

-- ---- words of 64 bits, at the place i of the list of all bits

-- `1 << j`
shl_one : (j : ℕ) → j < 64 → 1 * 2 ^ j % 2 ^ 64 ≡ 2 ^ j
shl_one j h = ap (λ (x : ℕ). x % 2 ^ 64) (one-mul (2 ^ j)) ∙ mod-eq_of_lt (pow-lt h)

module _ (ws : List ℕ) (i : ℕ) (h : i < 64 * length ws) where
  -- vertex i has bit i % 64 of word i / 64
  pub waiting_at : get_or (waiting_of ws) i false ≡ odd (get_or ws (i / 64) 0 / 2 ^ (i % 64))
  waiting_at =
      ap (λ (k : ℕ). get_or (waiting_of ws) k false) (sym (div-add-mod' i 64))
      ∙ bits_all_at 64 ws (i / 64) (omega arith) (i % 64) (omega arith)

  -- a word that differs in that bit alone takes its place
  waiting_set : (v : ℕ) (b : Bool) → bits_of 64 v ≡ set (bits_of 64 (get_or ws (i / 64) 0)) (i % 64) b → waiting_of (set ws (i / 64) v) ≡ set (waiting_of ws) i b
  waiting_set v b e =
      bits_all_set 64 ws (i / 64) (i % 64) v b (omega arith) (omega arith) e
      ∙ ap (λ (k : ℕ). set (waiting_of ws) k b) (div-add-mod' i 64)

  pub waiting_insert : waiting_of (set ws (i / 64) (bit_or (get_or ws (i / 64) 0) (1 * 2 ^ (i % 64) % 2 ^ 64))) ≡ set (waiting_of ws) i true
  waiting_insert =
      waiting_set _ true
      (ap (λ (x : ℕ). bits_of 64 (bit_or (get_or ws (i / 64) 0) x)) (shl_one (i % 64) (omega arith))
      ∙ bits_or 64 (i % 64) (get_or ws (i / 64) 0) (omega arith))

  pub waiting_remove : waiting_of (set ws (i / 64) (bit_and (get_or ws (i / 64) 0) ((2 ^ 64 - 1) - 1 * 2 ^ (i % 64) % 2 ^ 64))) ≡ set (waiting_of ws) i false
  waiting_remove =
      waiting_set _ false
      (ap (λ (x : ℕ). bits_of 64 (bit_and (get_or ws (i / 64) 0) ((2 ^ 64 - 1) - x))) (shl_one (i % 64) (omega arith))
      ∙ bits_and_not 64 (i % 64) (get_or ws (i / 64) 0) (omega arith))

  pub waiting_test : eqb (bit_and (get_or ws (i / 64) 0 / 2 ^ (i % 64)) 1) 1 ≡ get_or (waiting_of ws) i false
  waiting_test = ap (λ (x : ℕ). eqb x 1) (and_mask (get_or ws (i / 64) 0 / 2 ^ (i % 64)) 1) ∙ sym waiting_at
