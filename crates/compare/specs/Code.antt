-- What the functions that compare two tables are told and answer. Assumes nothing.
--
--   before xs k, after xs k == change k of a list: its pair, with the weight before the batch and with that after it, 0 where there is none
--   changed xs k            == the edge of change k, where it has one weight: the old one, or the new one
--   changes_in xs           == how many changes a list has: two words for each
--   Inside n xs             == the tails and heads of a list of changes are vertices below n
--   Lacks es fs g f         == the edges f i, of i below g, that have a weight are those of es that fs lacks; and each edge of es has a weight
--   Unjoined es fs g xs     == the first g changes of a list are the edges of es that fs lacks and those of fs that es lacks, each with its one weight, in
--                              table order
--   is_retune xs g k     == changes k and k + 1, of g, are all of their pair, one of an old edge and one of a new
--   put xs k a b         == xs with the words a and b for change k
--   joined xs k          == xs with both weights at change k, and none at change k + 1
--   Lists es fs g f o    == the same as Lacks, and o i stands in fs in the place of the edge f i
--   Differences es fs xs == a list of changes has what a batch changed: the edges of es that fs lacks and those of fs that es lacks, each with
--                              what stands in its place
--   tells_of xs is k j     == change k tells of the edge at place j of an index, as it was before
--   Faces n es fs is os    == beside each arc of an index of es stands one with the weight that is in its place in fs, 0 for none
--   Passed ts hs ws m e j  == the first j edges, of m, precede e
--   Tables n m ts hs ws .. == two tables that keep the rules of n vertices
use Rattle.std.specs.Prelude.{◌≡◌, Bool, true, false, not, ◌&&◌, cond, ℕ, ◌+◌, ◌-◌, ◌*◌, ◌/◌, ◌≤◌, ◌<◌, length, get_or, set, eqb, leb, ltb}
use mathlib.Core.List.{List, Memᴰ}
use Rattle.graph.specs.Limits.{max_vertices, max_edges}
use Rattle.graph.specs.Refusal.{accept}
use Rattle.graph.specs.Arc.{arc, arc_head, arc_weight}
use Rattle.graph.specs.Edge.{Edge, edge, same_pair, among, edges, precedes}
use Rattle.graph.specs.Table.{rules}
use Rattle.graph.specs.Index.{edge_of}
use Rattle.graph.specs.Code.{Room, edge_at}
use Rattle.affected.specs.Net.{counterpart}

-- ---- a list of changes

abbrev pub before : List ℕ → ℕ → Edge
before xs k = edge (arc_head (get_or xs (2 * k) 0)) (arc_head (get_or xs (2 * k + 1) 0)) (arc_weight (get_or xs (2 * k) 0))

abbrev pub after : List ℕ → ℕ → Edge
after xs k = edge (arc_head (get_or xs (2 * k) 0)) (arc_head (get_or xs (2 * k + 1) 0)) (arc_weight (get_or xs (2 * k + 1) 0))

abbrev pub changes_in : List ℕ → ℕ
changes_in xs = length xs / 2

abbrev pub Inside : ℕ → List ℕ → Type 0
Inside n xs = (k : ℕ) → k < length xs → arc_head (get_or xs k 0) < n

abbrev pub changed : List ℕ → ℕ → Edge
changed xs k = cond (eqb (before xs k).weight 0) (after xs k) (before xs k)

-- ---- what either table lacks

pub record Lacks (es fs : List Edge) (g : ℕ) (f : ℕ → Edge) : Type 0 where
  pub lacked : (k : ℕ) → k < g → 0 < (f k).weight → Memᴰ (f k) es × (among fs (f k) ≡ false)
  pub all : (e : Edge) → Memᴰ e es → among fs e ≡ false → (k : ℕ) × (k < g) × (f k ≡ e)
  pub weighs : (e : Edge) → Memᴰ e es → 0 < e.weight

pub record Unjoined (es fs : List Edge) (g : ℕ) (xs : List ℕ) : Type 0 where
  pub old : Lacks es fs g (before xs)
  pub new : Lacks fs es g (after xs)
  pub one : (k : ℕ) → k < g → eqb (before xs k).weight 0 ≡ not (eqb (after xs k).weight 0)
  pub ascends : (i j : ℕ) → i < j → j < g → precedes (changed xs i) (changed xs j) ≡ true

-- ---- retunes

unfoldable pub is_retune : List ℕ → ℕ → ℕ → Bool
is_retune xs g k =
    ltb (k + 1) g && (same_pair (before xs k) (before xs (k + 1))
    && (not (ltb 0 k && same_pair (before xs (k - 1)) (before xs k))
    && (not (ltb (k + 2) g && same_pair (before xs k) (before xs (k + 2)))
    && cond (eqb (before xs k).weight 0) (not (eqb (before xs (k + 1)).weight 0)) (eqb (before xs (k + 1)).weight 0))))

abbrev pub put : List ℕ → ℕ → ℕ → ℕ → List ℕ
put xs k a b = set (set xs (2 * k) a) (2 * k + 1) b

-- where change k is of the new edge, change k + 1 has the old weight, and else the new one
unfoldable pub joined : List ℕ → ℕ → List ℕ
joined xs k =
    put (put xs k (cond (eqb (before xs k).weight 0) (get_or xs (2 * (k + 1)) 0) (get_or xs (2 * k) 0)) (cond (eqb (before xs k).weight 0) (get_or xs (2 * k + 1) 0) (get_or xs (2 * (k + 1) + 1) 0)))
    (k + 1) (arc (before xs k).tail 0) (arc (before xs k).head 0)

-- ---- what a batch changed

pub record Lists (es fs : List Edge) (g : ℕ) (f : ℕ → Edge) (o : ℕ → ℕ) : Type 0 where
  pub lacks : Lacks es fs g f
  pub other : (k : ℕ) → k < g → 0 < (f k).weight → counterpart es fs (f k) ≡ o k

pub record Differences (es fs : List Edge) (xs : List ℕ) : Type 0 where
  pub old : Lists es fs (changes_in xs) (before xs) (λ k. (after xs k).weight)
  pub new : Lists fs es (changes_in xs) (after xs) (λ k. (before xs k).weight)

-- ---- beside an index

abbrev pub tells_of : List ℕ → List ℕ → ℕ → ℕ → Bool
tells_of xs is k j =
    leb (get_or is (before xs k).tail 0) j && (ltb j (get_or is ((before xs k).tail + 1) 0) && eqb (get_or is j 0) (arc (before xs k).head (before xs k).weight))

abbrev pub Faces : ℕ → List Edge → List Edge → List ℕ → List ℕ → Type 0
Faces n es fs is os = (u j : ℕ) → u < n → get_or is u 0 ≤ j → j < get_or is (u + 1) 0 → counterpart es fs (edge_of is u j) ≡ arc_weight (get_or os j 0)

-- ---- two tables

pub record Passed (ts hs ws : List ℕ) (m : ℕ) (e : Edge) (j : ℕ) : Type 0 where
  pub within : j ≤ m
  pub before : (k : ℕ) → k < j → precedes (edge_at ts hs ws k) e ≡ true

pub record Tables (n m : ℕ) (ts hs ws : List ℕ) (m' : ℕ) (ts' hs' ws' : List ℕ) : Type 0 where
  pub few : n ≤ max_vertices
  pub old : (m ≤ max_edges) × Room m ts hs ws × (rules n (edges ts hs ws m) ≡ accept)
  pub new : (m' ≤ max_edges) × Room m' ts' hs' ws' × (rules n (edges ts' hs' ws' m') ≡ accept)
