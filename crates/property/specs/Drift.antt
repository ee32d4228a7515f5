-- How far values move where weights do: document 02, One, the drift limit. "One figure moved by d moves no station's time, headroom or
-- worst stretch by more than d, and no handovers or reach." Assumes nothing.
--
--   Near k v w == v and w are at most k apart
--   slack p d  == how far values of property p may move where a weight moves by d
use Rattle.std.specs.Prelude.{ℕ, zero, suc, ◌+◌, ◌≤◌}

abbrev pub Near : ℕ → ℕ → ℕ → Type 0
Near k v w = (v ≤ w + k) × (w ≤ v + k)

-- time, headroom and worst stretch move by no more than the weight; handovers and reach do not move
unfoldable pub slack : ℕ → ℕ → ℕ
slack zero d = 0
slack (suc zero) d = d
slack (suc (suc zero)) d = 0
slack (suc (suc (suc zero))) d = d
slack (suc (suc (suc (suc zero)))) d = d
slack (suc (suc (suc (suc (suc k))))) d = 0
