-- Where the part lies that a row look-up shows. Assumes nothing.
--
--   word_at p i      == where word i of a list of 32-bit words lies that starts at p: in the same block of memory, four bytes further for each word
--   Shows .. f b at == the part that starts at `at` is the row in the list of its side, of the two that start at f and b; of a refused look-up
--                      nothing is said: its part is empty
use Rattle.std.specs.Prelude.{◌≡◌, cond, List, ℕ, ◌+◌, ◌*◌, eqb}
use Rattle.graph.specs.Refusal.{accept}
use Rattle.network.specs.Network.{Rows}
use Rattle.network.specs.Query.{row_at}
use Rattle.network.specs.Lookup.{index_of, lookup_verdict}

abbrev pub word_at : ℕ × ℕ → ℕ → ℕ × ℕ
word_at p i = (p.0, i * 4 + p.1)

abbrev pub Shows : ℕ → List ℕ → Rows → ℕ → ℕ → ℕ → ℕ × ℕ → ℕ × ℕ → ℕ × ℕ → Type 0
Shows n ls xs side l p f b at = lookup_verdict n ls xs side l p ≡ accept → at ≡ word_at (cond (eqb side 0) f b) (row_at (index_of l ls) p * n)
