-- How many bits are set, by the count of ones of each word, and that this says whether any is. Assumes nothing.
use Rattle.property.proofs.Basics.{◌≡◌, refl, sym, ap, ◌∙◌, Bool, true, false, not, List, [], ◌∷◌, ◌++◌, ℕ, zero, suc, ◌+◌, ◌*◌, ◌/◌, ◌%◌, ◌^◌, ◌≤◌, ◌<◌, zero-add, suc-add, pow-suc, arith, eqb, length, get_or, drop, drop_of_length-le}
use lib.Count.{ones, ones_step}
use lib.Dec.{eqb-suc-zero}
use Rattle.frontier.specs.Waiting.{bits_of, bits_of_all, waiting_of, count_of, any_of}
use Rattle.frontier.proofs.Words.{bits_all_length, bits_all_word}

pub count_append : (xs ys : List Bool) → count_of (xs ++ ys) ≡ count_of xs + count_of ys
unfolding count_of
count_append [] ys = sym (zero-add (count_of ys))
count_append (true ∷ xs) ys = ap suc (count_append xs ys) ∙ sym (suc-add (count_of xs) (count_of ys))
count_append (false ∷ xs) ys = count_append xs ys

pub count_le : (l : List Bool) → count_of l ≤ length l
unfolding count_of
count_le [] = omega arith
count_le (true ∷ l) = omega (arith, count_le l)
count_le (false ∷ l) = omega (arith, count_le l)

-- any is set where the count is not 0
pub any_count : (l : List Bool) → not (eqb (count_of l) 0) ≡ any_of l
unfolding count_of any_of
any_count [] = refl
any_count (true ∷ l) = ap not (eqb-suc-zero (count_of l))
any_count (false ∷ l) = any_count l

-- ---- one word of n bits

-- the lowest bit counts as its digit
count_lowest : (d : ℕ) (l : List Bool) → d < 2 → count_of (eqb d 1 ∷ l) ≡ d + count_of l
unfolding count_of
count_lowest zero l h = sym (zero-add (count_of l))
count_lowest (suc zero) l h = omega arith
count_lowest (suc (suc d)) l h = absurd (omega arith)

-- `count_ones`
count_ones : (n w : ℕ) → w < 2 ^ n → count_of (bits_of n w) ≡ ones w
unfolding bits_of count_of ones
count_ones zero w h = let z : w ≡ 0 = omega arith in ap ones (sym z)
count_ones (suc n) w h =
    count_lowest (w % 2) (bits_of n (w / 2)) (omega arith)
    ∙ ap (λ (k : ℕ). w % 2 + k) (count_ones n (w / 2) (omega (arith, pow-suc 2 n)))
    ∙ sym (ones_step w)

-- ---- words of 64 bits

pub count_words_le : (ws : List ℕ) → count_of (waiting_of ws) ≤ 64 * length ws
count_words_le ws = omega (arith, count_le (waiting_of ws), bits_all_length 64 ws)

-- from word k on: that word, and those after it
pub count_word : (ws : List ℕ) (k : ℕ) → k < length ws → get_or ws k 0 < 2 ^ 64
    → count_of (waiting_of (drop k ws)) ≡ ones (get_or ws k 0) + count_of (waiting_of (drop (k + 1) ws))
count_word ws k h b =
    ap count_of (bits_all_word 64 ws k h)
    ∙ count_append (bits_of 64 (get_or ws k 0)) (waiting_of (drop (k + 1) ws))
    ∙ ap (λ (m : ℕ). m + count_of (waiting_of (drop (k + 1) ws))) (count_ones 64 (get_or ws k 0) b)

-- past the last word
pub count_end : (ws : List ℕ) (k : ℕ) → length ws ≤ k → count_of (waiting_of (drop k ws)) ≡ 0
unfolding bits_of_all count_of
count_end ws k h = ap (λ (l : List ℕ). count_of (waiting_of l)) (drop_of_length-le ws {i = k} h)
