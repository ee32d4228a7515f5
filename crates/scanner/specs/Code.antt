-- What the functions on numbers and lines answer, in terms of lists of bytes. Assumes nothing.
--
--   scanned s r     == a number and the position after it, as the number and what follows it in s
--   parsed s r      == likewise, where there is a number
--   end_of r        == the position after a number
--   fields_read r   == the numbers of a line, where it has them
--   split_by s at r == the lines and the rest of s from at on, where r says where the first of them ends
--   in_text s at r  == the end of the line is a position of s, from at on
--   begun b p s     == what stands after the bytes p, where b says whether s begins with them
use Rattle.std.specs.Prelude.{Bool, cond, List, [], ◌∷◌, ℕ, ◌+◌, ◌-◌, ◌≤◌, ◌<◌, length, take, drop, Option, Some, None}
use Rattle.std.proofs.Math.Option as math
use Rattle.dimacs.specs.Lines.{Split, split}

-- ---- numbers

abbrev pub scanned : List ℕ → ℕ × ℕ → ℕ × List ℕ
scanned s r = (r.0, drop r.1 s)

abbrev pub parsed : List ℕ → Option (ℕ × ℕ) → math.Option (ℕ × List ℕ)
parsed s (Some r) = math.some (scanned s r)
parsed s None = math.none

abbrev pub end_of : Option (ℕ × ℕ) → ℕ
end_of (Some r) = r.1
end_of None = 0

abbrev pub fields_read : Option (List ℕ) → math.Option (List ℕ)
fields_read (Some vs) = math.some vs
fields_read None = math.none

-- ---- lines

abbrev pub split_by : List ℕ → ℕ → Option ℕ → Split
split_by s at (Some e) = record { lines = take (e - at) (drop at s) ∷ (split (drop (e + 1) s)).lines; rest = (split (drop (e + 1) s)).rest }
split_by s at None = record { lines = []; rest = drop at s }

abbrev pub in_text : List ℕ → ℕ → Option ℕ → Type 0
in_text s at (Some e) = (at ≤ e) × (e < length s)
in_text s at None = Unit {0}

abbrev pub begun : Bool → List ℕ → List ℕ → math.Option (List ℕ)
begun b p s = cond b (math.some (drop (length p) s)) math.none
