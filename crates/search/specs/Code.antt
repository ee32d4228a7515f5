-- What the functions of a search take and answer, and the way back that it leaves. Assumes nothing.
--
--   is_eligible p v x w y == `eligible` of an edge of weight w whose ends have the best values x and y
--   search_of m us rs     == the m vertices at the front of us and the words rs, as a search
--   Searching m us rs     == a search under way: each vertex is found once, so those found and those not found are all of them, and us has room for them
--   weight_at ps i        == the weight of edge i of a route
--   Trace s t rs ps       == rs leads back from t to s along the edges ps: the word of each vertex of the route but the first is the arc of the reversed
--                            edge to it
use Rattle.std.specs.Prelude.{◌≡◌, ◌≢◌, Bool, not, cond, List, map, ℕ, suc, ◌+◌, ◌<◌, ◌≤◌, length, get_or, take, eqb, leb}
use Rattle.property.specs.Property.{property}
use Rattle.graph.specs.Limits.{max_vertices}
use Rattle.graph.specs.Arc.{arc_weights, arc}
use Rattle.graph.specs.Edge.{Edge}
use Rattle.graph.specs.Code.{equal}
use Rattle.graph.specs.Leads.{visited}
use Rattle.search.specs.Search.{unfound, Search}

abbrev pub is_eligible : ℕ → ℕ → ℕ → ℕ → ℕ → Bool
is_eligible p v x w y = cond (leb p 2) (eqb ((property p).along x w) y) (not ((property p).better v ((property p).along (property p).start w)))

abbrev pub search_of : ℕ → List ℕ → List ℕ → Search
search_of m us rs = record { queue = take m us; via = rs }

pub record Searching (m : ℕ) (us rs : List ℕ) : Type 0 where
  pub few : length rs ≤ max_vertices
  pub room : length rs ≤ length us
  pub once : m + equal unfound rs ≡ length rs
  pub inside : (i : ℕ) → i < m → get_or us i 0 < length rs

-- ---- the way back

abbrev pub weight_at : List Edge → ℕ → ℕ
weight_at ps i = get_or (map (λ e. e.weight) ps) i 0

pub record Trace (s t : ℕ) (rs : List ℕ) (ps : List Edge) : Type 0 where
  pub few : length rs ≤ max_vertices
  pub short : length ps < length rs
  pub last : get_or (visited s ps) (length ps) 0 ≡ t
  pub inside : (i : ℕ) → i ≤ length ps → get_or (visited s ps) i 0 < length rs
  pub back : (i : ℕ) → i < length ps → get_or rs (get_or (visited s ps) (suc i) 0) 0 ≡ arc (get_or (visited s ps) i 0) (weight_at ps i)
  pub light : (i : ℕ) → i < length ps → weight_at ps i < arc_weights
  pub away : (i : ℕ) → i < length ps → get_or (visited s ps) (suc i) 0 ≢ s
