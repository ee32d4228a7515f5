-- What the program knows of a number: itself up to 65,535, and that it is greater beyond. All limits lie below. Assumes nothing.
--
--   cap v        == v, or 65,536 where v is greater
--   cap_vertex v == the vertex, from 0, that a capped number names
--   cap_scan v s == scan with its number capped
--   cap_number o == what number gives, with its number capped
--   field s      == a single space and a number, and what follows
--   cap_fields o == what fields gives, with its numbers capped
--   starts c s   == the first byte of s is c
--   commented s  == a line of which s stands after its `c` is a comment
use Rattle.std.specs.Prelude.{Bool, true, false, List, [], ◌∷◌, map, ℕ, min, eqb}
use Rattle.std.proofs.Math.Option.{Option, none, some, bind}
use Rattle.dimacs.specs.Decimal.{scan, number}
use Rattle.dimacs.specs.Read.{after}

abbrev pub cap : ℕ → ℕ
cap v = min v 65536

abbrev pub cap_vertex : ℕ → ℕ
cap_vertex v = min v 65535

unfoldable pub cap_scan : ℕ → List ℕ → ℕ × List ℕ
cap_scan v s = (cap (scan v s).0, (scan v s).1)

unfoldable pub cap_number : Option (ℕ × List ℕ) → Option (ℕ × List ℕ)
cap_number none = none
cap_number (some q) = some (cap q.0, q.1)

unfoldable pub field : List ℕ → Option (ℕ × List ℕ)
field s = bind (after (32 ∷ []) s) number

unfoldable pub cap_fields : Option (List ℕ) → Option (List ℕ)
cap_fields none = none
cap_fields (some vs) = some (map cap vs)

-- ---- first bytes

unfoldable pub starts : ℕ → List ℕ → Bool
starts c [] = false
starts c (b ∷ s) = eqb b c

unfoldable pub commented : List ℕ → Bool
commented [] = true
commented (b ∷ s) = eqb b 32
