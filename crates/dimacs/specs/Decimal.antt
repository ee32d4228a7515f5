-- Numbers in base ten: document 01, "Text". Bytes are natural numbers; numbers have any length and never wrap. Assumes nothing.
--
--   digits v   == v in base ten: no sign, no leading zero; `0` for zero
--   is_digit b == b is one of the bytes `0` to `9`
--   scan v s   == the number that v and the digits at the front of s make, and what follows them
--   number s   == the number at the front of s and what follows it; none where s does not begin with one. What follows `0` is
--                     no part of the number, so that `07` is none
--   digits_by k b v == digits, with a bound k on how many are left, and whether v is below ten
use Rattle.std.specs.Prelude.{Bool, true, false, ◌&&◌, cond, List, [], ◌∷◌, ◌++◌, ℕ, zero, suc, ◌+◌, ◌-◌, ◌*◌, ◌/◌, ◌%◌, ltb, leb, eqb}
use Rattle.std.proofs.Math.Option.{Option, none, some}

-- the first argument bounds how many digits are left, the second says whether v is below ten
unfoldable pub digits_by : ℕ → Bool → ℕ → List ℕ
digits_by zero b v = (48 + v) ∷ []
digits_by (suc k) true v = (48 + v) ∷ []
digits_by (suc k) false v = digits_by k (ltb (v / 10) 10) (v / 10) ++ ((48 + v % 10) ∷ [])

unfoldable pub digits : ℕ → List ℕ
digits v = digits_by v (ltb v 10) v

unfoldable pub is_digit : ℕ → Bool
is_digit b = leb 48 b && leb b 57

unfoldable pub scan : ℕ → List ℕ → ℕ × List ℕ
scan v [] = (v, [])
scan v (b ∷ s) = cond (is_digit b) (scan (v * 10 + (b - 48)) s) (v, b ∷ s)

unfoldable pub number : List ℕ → Option (ℕ × List ℕ)
number [] = none
number (b ∷ s) = cond (eqb b 48) (some (0, s)) (cond (is_digit b) (some (scan (b - 48) s)) none)
