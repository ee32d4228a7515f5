-- Row look-up: document 01, "Network" and "Turned back". It writes nothing. Assumes nothing.
--
--   index_of l ls  == where the landmark l stands in the list
--   lookup_verdict == numbers 1, 2, 3 (also a landmark not in the list), 5 (also a side neither 0 nor 1)
--   lookup_row     == the row that is shown: a part of the list of its side; the empty part where the look-up is refused
--   lookup_number  == the call on the same inputs that gives the number
use Rattle.std.specs.Prelude.{not, ◌||◌, cond, List, [], ◌∷◌, ℕ, suc, eqb, ltb}
use Rattle.property.specs.Property.{is_property}
use Rattle.graph.specs.Refusal.{Verdict, ◌▷◌, refuse_if, Reply, choose, replied}
use Rattle.graph.specs.Table.{size}
use Rattle.network.specs.Network.{Rows, short_rows, landmarks, is_in, row}
use Rattle.network.specs.Query.{row_at}

unfoldable pub index_of : ℕ → List ℕ → ℕ
index_of l [] = 0
index_of l (x ∷ ls) = cond (eqb l x) 0 (suc (index_of l ls))

module _ (n : ℕ) (ls : List ℕ) (xs : Rows) (side l p : ℕ) where
  abbrev pub lookup_verdict : Verdict
  lookup_verdict =
      size n
      ▷ short_rows n ls xs
      ▷ landmarks n ls
      ▷ refuse_if (not (is_in l ls)) 3 0
      ▷ refuse_if (not (is_property p) || ltb 1 side) 5 0

  unfoldable pub lookup_row : List ℕ
  lookup_row = choose lookup_verdict (row n (row_at (index_of l ls) p) (cond (eqb side 0) xs.forward xs.backward)) []

  unfoldable pub lookup_number : Reply (Unit {0})
  lookup_number = replied lookup_verdict tt
