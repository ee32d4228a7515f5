-- The first that waits from a bit of word q on, in words of 64 bits. Assumes nothing.
--
-- The bits from bit j of word q on are those of this word from j on, then the later words. With the bits below j masked the word may be looked
-- at whole: either it is not 0, and its trailing zeros say where its lowest set bit is; or it is 0, and the search goes on at the next word.
use Rattle.std.specs.Prelude.{Option, Some, None}
use Rattle.property.proofs.Basics.{◌≡◌, sym, ap, ap₂, ◌∙◌, List, ◌++◌, ℕ, ◌+◌, ◌-◌, ◌*◌, ◌^◌, ◌≤◌, ◌<◌, arith, length, get_or, drop, drop_of_length-le}
use native.Mathlib.Nat.{pos_of_ne-zero}
use lib.Bits.{bit_and}
use lib.Count.{count_trailing_zeros, trailing_le}
use mir.Syntax.{w64}
use mir.Val.{Fits}
use Rattle.frontier.specs.Waiting.{bits_of, waiting_of, seek, next_from}
use Rattle.frontier.proofs.Word.{seek_mask, seek_word, seek_zero}
use Rattle.frontier.proofs.Words.{bits_all_length, bits_all_drop, bits_all_word, bits_all_from}

-- the place of a set bit, in its word and in all words, is a `usize`
pub bit_fits : (w : ℕ) → Fits w64 (count_trailing_zeros 64 w)
bit_fits w = omega (arith, trailing_le 64 w)

pub place_fits : (q w : ℕ) {m : ℕ} → q < m → 64 * m < 2 ^ 64 → Fits w64 (q * 64 + count_trailing_zeros 64 w)
place_fits q w l h = omega (arith, trailing_le 64 w)

-- past the last word there is none
pub next_end : (ws : List ℕ) (q : ℕ) → length ws ≤ q → next_from (waiting_of ws) (q * 64) ≡ None
unfolding seek
next_end ws q h = ap (seek (q * 64)) (drop_of_length-le (waiting_of ws) {i = q * 64} (omega (arith, bits_all_length 64 ws)))

module _ (ws : List ℕ) (q : ℕ) (h : q < length ws) where
  -- the first in w, or else in the words after word q
  abbrev pub first : ℕ → Option ℕ
  first w = seek (q * 64) (bits_of 64 w ++ waiting_of (drop (q + 1) ws))

  -- from bit j of word q on, where m clears the bits below j
  pub next_masked : (j m : ℕ) → j < 64 → m ≡ 2 ^ 64 - 2 ^ j → next_from (waiting_of ws) (q * 64 + j) ≡ first (bit_and (get_or ws q 0) m)
  next_masked j m l e =
      ap (seek (q * 64 + j)) (bits_all_from 64 ws q h j (omega arith))
      ∙ sym (seek_mask 64 j (q * 64) (get_or ws q 0) (waiting_of (drop (q + 1) ws)) (omega arith))
      ∙ ap (λ (x : ℕ). first (bit_and (get_or ws q 0) x)) (sym e)

  pub next_whole : next_from (waiting_of ws) (q * 64) ≡ first (get_or ws q 0)
  next_whole = ap (seek (q * 64)) (bits_all_drop 64 ws q ∙ bits_all_word 64 ws q h)

  -- it is in this word
  pub first_here : (w : ℕ) → w < 2 ^ 64 → (w ≡ 0 → ⊥) → first w ≡ Some (q * 64 + count_trailing_zeros 64 w)
  first_here w b p = seek_word 64 (q * 64) w (waiting_of (drop (q + 1) ws)) (pos_of_ne-zero p) b

  -- it is not in this word
  pub first_later : (w : ℕ) → w ≡ 0 → first w ≡ next_from (waiting_of ws) ((q + 1) * 64)
  first_later w z =
      let s : q * 64 + 64 ≡ (q + 1) * 64 = omega arith in
      ap first z ∙ seek_zero 64 (q * 64) (waiting_of (drop (q + 1) ws)) ∙ ap₂ seek s (sym (bits_all_drop 64 ws (q + 1)))
