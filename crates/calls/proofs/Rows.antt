-- Where a row lies in a list of rows, and its words. Assumes nothing.
use Rattle.property.proofs.Basics.{◌≡◌, sym, ◌∙◌, List, ℕ, ◌+◌, ◌*◌, ◌<◌, ◌≤◌, mul-le-mul, mul-le-mul_right, suc-mul, arith, length, get_or, drop, get_or-take, get_or-drop}
use mir.Syntax.{w64}
use mir.Val.{Fits}
use mir.Facts.{Fits-le, Fits-lit}
use Rattle.property.specs.Property.{Property, properties}
use Rattle.graph.specs.Limits.{max_vertices, max_landmarks}
use Rattle.graph.proofs.Lists.{get_or_within}
use Rattle.run.specs.Run.{word}
use Rattle.network.specs.Network.{row}
use Rattle.network.specs.Query.{row_at}

-- where a row starts is no great number
pub row_fits : (r n : ℕ) → r ≤ max_landmarks * properties → n ≤ max_vertices → Fits w64 (r * n)
row_fits r n a b = Fits-le (mul-le-mul a b) (Fits-lit tt)

-- the rows of k landmarks are at most 20 of at most 256 words, so lists of 5,120 have room for them
pub rows_most : (k n : ℕ) → k ≤ max_landmarks → n ≤ max_vertices → k * properties * n ≤ max_landmarks * properties * max_vertices
rows_most k n a b = mul-le-mul {n₁ = k * properties} {m₁ = n} {n₂ = max_landmarks * properties} {m₂ = max_vertices} (omega arith) b

-- row r of k rows ends within a list that has them
pub row_ends : (r k n l : ℕ) → r < k → k * n ≤ l → r * n + n ≤ l
row_ends r k n l h f = omega (arith, suc-mul r n, mul-le-mul_right n h)

-- the row of landmark i and property p, in a list that has the rows of k landmarks
pub row_within : (n i p k l : ℕ) → i < k → 0 < p → p ≤ properties → k * properties * n ≤ l → row_at i p * n + n ≤ l
row_within n i p k l h a b f = row_ends (row_at i p) (k * properties) n l (omega arith) f

pub row_word : (P : Property) (n r t : ℕ) (xs : List ℕ) → t < n → r * n + t < length xs → get_or xs (r * n + t) 0 ≡ word P (row n r xs) t
row_word P n r t xs h l = get_or_within xs (r * n + t) 0 P.none l ∙ sym (get_or-take n (drop (r * n) xs) t P.none h ∙ get_or-drop (r * n) xs t P.none)
