-- The five properties of routes: document 01, "Network", the table of properties; document 02, One (`worse`). Assumes nothing.
--
--   M             == 4,294,967,295: the greatest word of 32 bits
--   plus a b      == the sum of two words; M where it is above 4,294,967,294
--   Property      == a row of the table: value at the source, no-route word, along an edge, better; how values join, and which weights are worse
--   sssp          == time: sums of weights, less is better
--   bfs           == handovers: edges counted, less is better
--   sswp          == headroom: the least weight, greater is better
--   ssnp          == worst stretch: the greatest weight, less is better
--   ssr           == reach: 1 where there is a route, greater is better
--   properties    == how many there are
--   property p    == the property of number p, from 1
--   is_property p == p is the number of a property
use Rattle.std.specs.Prelude.{Bool, false, ◌&&◌, ℕ, zero, suc, ◌+◌, min, max, ltb, leb}

abbrev pub M : ℕ
M = 4294967295

abbrev pub plus : ℕ → ℕ → ℕ
plus a b = min (a + b) M

pub record Property : Type 0 where
  -- "value at the source"
  pub start : ℕ
  -- "no route"
  pub none : ℕ
  -- the value v after an edge of weight w, as `along v w`
  pub along : ℕ → ℕ → ℕ
  -- `better a b`: a is better than b
  pub better : ℕ → ℕ → Bool
  -- "joining": the value to a vertex with the value on from it
  pub join : ℕ → ℕ → ℕ
  -- `worse a b`: the weight a is worse than the weight b: document 02, One, "more is worse for time and worst stretch, less is worse for
  -- headroom, neither for handovers and reach"
  pub worse : ℕ → ℕ → Bool

abbrev pub sssp : Property
sssp = record { start = 0; none = M; along = λ v w. plus v w; better = λ a b. ltb a b; join = λ a b. plus a b; worse = λ a b. ltb b a }

abbrev pub bfs : Property
bfs = record { start = 0; none = M; along = λ v w. plus v 1; better = λ a b. ltb a b; join = λ a b. plus a b; worse = λ a b. false }

abbrev pub sswp : Property
sswp = record { start = M; none = 0; along = λ v w. min v w; better = λ a b. ltb b a; join = λ a b. min a b; worse = λ a b. ltb a b }

abbrev pub ssnp : Property
ssnp = record { start = 0; none = M; along = λ v w. max v w; better = λ a b. ltb a b; join = λ a b. max a b; worse = λ a b. ltb b a }

abbrev pub ssr : Property
ssr = record { start = 1; none = 0; along = λ v w. v; better = λ a b. ltb b a; join = λ a b. min a b; worse = λ a b. false }

abbrev pub properties : ℕ
properties = 5

-- total, so that the laws hold at every number; calls refuse any that is not 1 to 5 before they use it
unfoldable pub property : ℕ → Property
property zero = ssr
property (suc zero) = sssp
property (suc (suc zero)) = bfs
property (suc (suc (suc zero))) = sswp
property (suc (suc (suc (suc zero)))) = ssnp
property (suc (suc (suc (suc (suc k))))) = ssr

abbrev pub is_property : ℕ → Bool
is_property p = ltb 0 p && leb p properties
