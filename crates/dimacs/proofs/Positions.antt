-- Reading at a position of a text: one byte, one number, one line at a time. For code that walks a list of bytes.
-- Assumes nothing.
use Rattle.property.proofs.Basics.{◌≡◌, refl, ap, ◌∙◌, true, false, not, List, [], ◌∷◌, ◌++◌, ℕ, suc, ◌+◌, ◌-◌, ◌*◌, ◌≤◌, ◌<◌, add-one, arith, eqb, length, get_or, take, drop, drop_of_length-le, length-drop, drop-cons, take-suc, take_all, get_or-drop, drop-drop, ne_eqb, not-true}
use native.Mathlib.Nat.{sub_self}
use lib.Seq.{split_at}
use Rattle.graph.proofs.Tests.{both}
use Rattle.dimacs.proofs.Digits.{scan_digit, scan_other}
use Rattle.dimacs.proofs.Fields.{plain_append}
use Rattle.dimacs.proofs.Split.{split_line}
use Rattle.dimacs.specs.Decimal.{is_digit, scan}
use Rattle.dimacs.specs.Lines.{before, split, plain}

-- ---- numbers

module _ (s : List ℕ) (i : ℕ) where
  pub scan_more : (v : ℕ) → i < length s → is_digit (get_or s i 0) ≡ true → scan v (drop i s) ≡ scan (v * 10 + (get_or s i 0 - 48)) (drop (i + 1) s)
  scan_more v h e = rw (drop-cons s i 0 h, add-one) (scan_digit v (get_or s i 0) (drop (suc i) s) e)

  pub scan_stop : (v : ℕ) → i < length s → is_digit (get_or s i 0) ≡ false → scan v (drop i s) ≡ (v, drop i s)
  scan_stop v h e = rw (drop-cons s i 0 h) (scan_other v (get_or s i 0) (drop (suc i) s) e)

  pub scan_end : (v : ℕ) → length s ≤ i → scan v (drop i s) ≡ (v, drop i s)
  unfolding scan
  scan_end v h = rw (drop_of_length-le s h)

-- ---- the first line from a position on, found byte by byte

-- no line feed follows
split_open : (s : List ℕ) → plain s ≡ true → split s ≡ record { lines = []; rest = s }
unfolding split before plain
split_open [] h = refl
split_open (b ∷ s) h = let (p, q) = both (not (eqb b 10)) (plain s) h in rw (not-true (eqb b 10) p, split_open s q)

pub feed_start : (s : List ℕ) (at : ℕ) → plain (take (at - at) (drop at s)) ≡ true
unfolding plain
feed_start s at = rw (sub_self at)

plain_one : (b : ℕ) → (b ≡ 10 → ⊥) → plain (b ∷ []) ≡ true
unfolding plain
plain_one b d = rw (ne_eqb b 10 d)

module _ (s : List ℕ) (at i : ℕ) (from : at ≤ i) where
  inside : i < length s → i - at < length (drop at s)
  inside h = omega (arith, length-drop at s)

  at_byte : get_or (drop at s) (i - at) 0 ≡ get_or s i 0
  at_byte =
      let e : at + (i - at) ≡ i = omega arith in
      rw (get_or-drop, e)

  pub feed_more : i < length s → (get_or s i 0 ≡ 10 → ⊥) → plain (take (i - at) (drop at s)) ≡ true → plain (take (i + 1 - at) (drop at s)) ≡ true
  feed_more h d p =
      let e : i + 1 - at ≡ suc (i - at) = omega arith in
      rw (e, take-suc (drop at s) (i - at) 0 (inside h), at_byte) (plain_append (take (i - at) (drop at s)) (get_or s i 0 ∷ []) p (plain_one (get_or s i 0) d))

  parts : i < length s → get_or s i 0 ≡ 10 → drop at s ≡ take (i - at) (drop at s) ++ (10 ∷ drop (i + 1) s)
  parts h b =
      let e : at + suc (i - at) ≡ i + 1 = omega arith in
      split_at (drop at s) (i - at) 0 (inside h) ∙ rw (at_byte, b, drop-drop, e)

  -- the line feed at i ends the line
  pub feed_ends : i < length s → get_or s i 0 ≡ 10 → plain (take (i - at) (drop at s)) ≡ true
      → split (drop at s) ≡ record { lines = take (i - at) (drop at s) ∷ (split (drop (i + 1) s)).lines; rest = (split (drop (i + 1) s)).rest }
  feed_ends h b p = ap split (parts h b) ∙ split_line (take (i - at) (drop at s)) (drop (i + 1) s) p

  pub feed_open : length s ≤ i → plain (take (i - at) (drop at s)) ≡ true → split (drop at s) ≡ record { lines = []; rest = drop at s }
  feed_open h p =
      let l : length (drop at s) ≤ i - at = omega (arith, length-drop at s) in
      split_open (drop at s) (rw (take_all (i - at) (drop at s) l) at p)
