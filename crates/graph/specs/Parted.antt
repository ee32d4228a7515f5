-- Where the edges of each key end, in a list of keys that never fall. Assumes nothing.
--
--   Ascending m ks  == the first m keys never fall
--   Ends m ks es    == word u of es says how many keys there are up to the last one that is u - 1, or 0 where none is
--   Parted m ks u j == of the first m keys the first j are below u and the others are not
use Rattle.std.specs.Prelude.{◌≡◌, List, ℕ, ◌+◌, ◌<◌, ◌≤◌, get_or}

abbrev pub Ascending : ℕ → List ℕ → Type 0
Ascending m ks = (i j : ℕ) → i ≤ j → j < m → get_or ks i 0 ≤ get_or ks j 0

abbrev pub Ends : ℕ → List ℕ → List ℕ → Type 0
Ends m ks es = (u : ℕ) → (get_or es u 0 ≤ m) × ((i : ℕ) → i < get_or es u 0 → get_or ks i 0 < u) × ((i : ℕ) → i < m → get_or ks i 0 + 1 ≡ u → i < get_or es u 0)

abbrev pub Parted : ℕ → List ℕ → ℕ → ℕ → Type 0
Parted m ks u j = (j ≤ m) × ((i : ℕ) → i < j → get_or ks i 0 < u) × ((i : ℕ) → j ≤ i → i < m → u ≤ get_or ks i 0)
