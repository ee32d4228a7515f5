-- What the functions on a row after a batch are told and answer: its changes, and where its hunt and its rounds start. Assumes nothing.
--
--   Batched n es fs is rs xs     == es are the edges before a batch, none from a vertex to itself, fs those after it, between n vertices: is is an
--                                   index of es, rs one of the reversed fs, and xs has what the batch changed
--   edge_lost P w c       == there is an edge, of weight w (0 for none), and it is lost to the property where c stands in its place
--   starts P s ws xs k    == change k of xs removed an edge that holds up its head
--   Raised bs cs Q        == the bits bs became cs: those of Q were set
--   Reached f on j k t    == t is f i, of some i from j to k - 1 that passes the test on
--   Started P s ws xs k t == t is to do, as the number of a vertex from the far end: the tail of such an edge of one of the first k changes
--   Woken P xs k t        == t is the tail of an edge that one of the first k changes added
--   Entering is j k t     == t is the head of an arc at places j to k - 1
use Rattle.std.specs.Prelude.{◌≡◌, ◌⊎◌, ◌≢◌, Bool, true, false, ◌&&◌, ℕ, ◌≤◌, ◌<◌, length, get_or, ltb}
use mathlib.Core.List.{List, map, Memᴰ}
use Rattle.property.specs.Property.{Property}
use Rattle.graph.specs.Arc.{arc_head}
use Rattle.graph.specs.Edge.{Edge, reverse}
use Rattle.graph.specs.Index.{Own}
use Rattle.affected.specs.Net.{lost}
use Rattle.affected.specs.Affected.{held}
use Rattle.compare.specs.Code.{before, after, Differences}
use Rattle.hunt.specs.Code.{from_end}

-- ---- the changes

pub record Batched (n : ℕ) (es fs : List Edge) (is rs xs : List ℕ) : Type 0 where
  pub inside : (e : Edge) → Memᴰ e es → (e.tail < n) × (e.head < n) × (e.tail ≢ e.head)
  pub into : (e : Edge) → Memᴰ e fs → e.head < n
  pub old : Own n is es
  pub new : Own n rs (map reverse fs)
  pub net : Differences es fs xs

abbrev pub edge_lost : Property → ℕ → ℕ → Bool
edge_lost P w c = ltb 0 w && lost P w c

abbrev pub starts : Property → ℕ → List ℕ → List ℕ → ℕ → Bool
starts P s ws xs k = edge_lost P (before xs k).weight (after xs k).weight && held P s ws (before xs k)

-- ---- bits that are set

pub record Raised (bs cs : List Bool) (Q : ℕ → Type 0) : Type 0 where
  pub kept : (t : ℕ) → get_or bs t false ≡ true → get_or cs t false ≡ true
  pub only : (t : ℕ) → get_or cs t false ≡ true → (get_or bs t false ≡ true) ⊎ Q t
  pub all : (t : ℕ) → Q t → get_or cs t false ≡ true

abbrev pub Reached : (ℕ → ℕ) → (ℕ → Bool) → ℕ → ℕ → ℕ → Type 0
Reached f on j k t = (i : ℕ) × (j ≤ i) × (i < k) × (on i ≡ true) × (f i ≡ t)

abbrev pub Started : Property → ℕ → List ℕ → List ℕ → ℕ → ℕ → Type 0
Started P s ws xs k = Reached (λ i. from_end (length ws) (before xs i).tail) (starts P s ws xs) 0 k

abbrev pub Woken : Property → List ℕ → ℕ → ℕ → Type 0
Woken P xs k = Reached (λ i. (after xs i).tail) (λ i. edge_lost P (after xs i).weight (before xs i).weight) 0 k

abbrev pub Entering : List ℕ → ℕ → ℕ → ℕ → Type 0
Entering is = Reached (λ i. arc_head (get_or is i 0)) (λ i. true)
