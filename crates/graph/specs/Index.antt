-- The edges of n vertices by vertex, in two forms. A table with its places: a list of n + 1 places, and the heads and weights of the table; word u of
-- the places says where vertex u's edges start in these, word u + 1 where they end. An index: one list that holds n + 1 places and then the arcs
-- of all edges; word u is the place of vertex u's first arc in this same list, so that it stands for all three. What stands after the last edge is
-- never read. Assumes nothing.
--
--   edge_in b hs ws u j          == the edge of tail u whose words stand at place j of hs and ws: an arc in both where b holds, else head and weight
--   part_in b hs ws u j k        == the k edges of tail u whose words stand from place j on
--   own_in b fs hs ws u          == the edges of vertex u, by the places fs
--   FitIn b n fs hs ws           == nothing that a run of n vertices reads by these lists is out of range
--   OwnIn b n fs hs ws es        == they give each vertex its edges of es, in table order
--   IndexesIn b n fs hs ws es    == both
--   edge_of, part, own, Fit, Own, Indexes == the same of an index, which is one list for all three
--   in_order is u k              == the edges of the k vertices from u on, vertex by vertex
--   Indexable n m ts hs ws fs is == m edges that keep the rules of n vertices, and lists with room for their index: fs for its making, is for it
--   ReversedArcs n m ts hs ws is == from place n + 1 on stand the arcs of the edges into 0, into 1, .., reversed
use Rattle.std.specs.Prelude.{◌≡◌, Bool, true, List, [], ◌∷◌, ◌++◌, ℕ, zero, suc, ◌+◌, ◌-◌, ◌≤◌, ◌<◌, length, get_or, take}
use Rattle.graph.specs.Limits.{max_vertices, max_edges}
use Rattle.graph.specs.Refusal.{accept}
use Rattle.graph.specs.Edge.{Edge, edge, leaving, edges}
use Rattle.graph.specs.Table as table
use Rattle.graph.specs.Code.{Room, below, equal, into}
use Rattle.graph.specs.Arc.{head_in, weight_in}

-- ---- either form

abbrev pub edge_in : Bool → List ℕ → List ℕ → ℕ → ℕ → Edge
edge_in b hs ws u j = edge u (head_in b (get_or hs j 0)) (weight_in b (get_or ws j 0))

unfoldable pub part_in : Bool → List ℕ → List ℕ → ℕ → ℕ → ℕ → List Edge
part_in b hs ws u j zero = []
part_in b hs ws u j (suc k) = edge_in b hs ws u j ∷ part_in b hs ws u (suc j) k

abbrev pub own_in : Bool → List ℕ → List ℕ → List ℕ → ℕ → List Edge
own_in b fs hs ws u = part_in b hs ws u (get_or fs u 0) (get_or fs (u + 1) 0 - get_or fs u 0)

pub record FitIn (b : Bool) (n : ℕ) (fs hs ws : List ℕ) : Type 0 where
  pub few : n ≤ max_vertices
  pub places : n < length fs
  pub after : (u : ℕ) → u ≤ n → get_or fs 0 0 ≤ get_or fs u 0
  pub rising : (u : ℕ) → u < n → get_or fs u 0 ≤ get_or fs (u + 1) 0
  pub within : (u : ℕ) → u < n → get_or fs (u + 1) 0 ≤ get_or fs n 0
  pub heads : get_or fs n 0 ≤ length hs
  pub weights : get_or fs n 0 ≤ length ws
  pub short : get_or fs n 0 ≤ get_or fs 0 0 + max_edges
  pub inside : (k : ℕ) → get_or fs 0 0 ≤ k → k < get_or fs n 0 → head_in b (get_or hs k 0) < n

abbrev pub OwnIn : Bool → ℕ → List ℕ → List ℕ → List ℕ → List Edge → Type 0
OwnIn b n fs hs ws es = (u : ℕ) → u < n → own_in b fs hs ws u ≡ leaving u es

pub record IndexesIn (b : Bool) (n : ℕ) (fs hs ws : List ℕ) (es : List Edge) : Type 0 where
  pub fit : FitIn b n fs hs ws
  pub own : OwnIn b n fs hs ws es

-- ---- an index

abbrev pub edge_of : List ℕ → ℕ → ℕ → Edge
edge_of is u j = edge_in true is is u j

abbrev pub part : List ℕ → ℕ → ℕ → ℕ → List Edge
part is u j k = part_in true is is u j k

abbrev pub own : List ℕ → ℕ → List Edge
own is u = own_in true is is is u

unfoldable pub in_order : List ℕ → ℕ → ℕ → List Edge
in_order is u zero = []
in_order is u (suc k) = own is u ++ in_order is (suc u) k

abbrev pub Fit : ℕ → List ℕ → Type 0
Fit n is = FitIn true n is is is

abbrev pub Own : ℕ → List ℕ → List Edge → Type 0
Own n is es = OwnIn true n is is is es

abbrev pub Indexes : ℕ → List ℕ → List Edge → Type 0
Indexes n is es = IndexesIn true n is is is es

pub record Indexable (n m : ℕ) (ts hs ws fs is : List ℕ) : Type 0 where
  pub few : n ≤ max_vertices
  pub records : m ≤ max_edges
  pub room : Room m ts hs ws
  pub rules : table.rules n (edges ts hs ws m) ≡ accept
  pub firsts : n < length fs
  pub list : n + 1 + m ≤ length is

abbrev pub ReversedArcs : ℕ → ℕ → List ℕ → List ℕ → List ℕ → List ℕ → Type 0
ReversedArcs n m ts hs ws is = (u : ℕ) → u < n → part is u (below u (take m hs) + (n + 1)) (equal u (take m hs)) ≡ into u (edges ts hs ws m)
