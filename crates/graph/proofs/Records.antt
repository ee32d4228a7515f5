-- The edges below a count of three lists: their number, each of them, what is left from an index on, one more, one less, another
-- weight. Assumes nothing.
use Rattle.property.proofs.Basics.{◌≡◌, refl, ap, ◌∙◌, List, [], ◌∷◌, ◌++◌, map, Memᴰ, ℕ, zero, suc, ◌+◌, ◌-◌, ◌<◌, ◌≤◌, add-one, arith, length, get_or, set, take, drop, drop_of_length-le, length-take-le, drop-cons, get_or-take, take-set-lt}
use Rattle.graph.specs.Edge.{Edge, edge, zip, edges}
use Rattle.graph.specs.Code.{Room, edge_at, insert_at, delete_at}
use Rattle.graph.proofs.Lists.{get_or_mem}

-- ---- three lists side by side

-- three lists of one length
data Level : List ℕ → List ℕ → List ℕ → Type 0 where
  none : Level [] [] []
  more : {x y z : ℕ} {ts hs ws : List ℕ} → Level ts hs ws → Level (x ∷ ts) (y ∷ hs) (z ∷ ws)

are_level : (ts hs ws : List ℕ) → length ts ≡ length hs → length hs ≡ length ws → Level ts hs ws
are_level [] [] [] a b = none
are_level [] [] (w ∷ ws) a b = absurd (omega arith)
are_level [] (h ∷ hs) ws a b = absurd (omega arith)
are_level (t ∷ ts) [] ws a b = absurd (omega arith)
are_level (t ∷ ts) (h ∷ hs) [] a b = absurd (omega arith)
are_level (t ∷ ts) (h ∷ hs) (w ∷ ws) a b = more (are_level ts hs ws (omega arith) (omega arith))

abbrev pub tails_of : List Edge → List ℕ
tails_of es = map (λ (e : Edge). e.tail) es

abbrev pub heads_of : List Edge → List ℕ
heads_of es = map (λ (e : Edge). e.head) es

zip_length : {ts hs ws : List ℕ} → Level ts hs ws → length (zip ts hs ws) ≡ length ts
unfolding zip
zip_length none = refl
zip_length (more l) = ap suc (zip_length l)

zip_at : {ts hs ws : List ℕ} → Level ts hs ws → (k : ℕ) → k < length ts → get_or (zip ts hs ws) k (edge 0 0 0) ≡ edge_at ts hs ws k
unfolding zip
zip_at none k a = absurd (omega arith)
zip_at (more l) zero a = refl
zip_at (more l) (suc k) a = zip_at l k (omega arith)

zip_insert : {ts hs ws : List ℕ} → Level ts hs ws → (i t h w : ℕ) → zip (insert_at i t ts) (insert_at i h hs) (insert_at i w ws) ≡ insert_at i (edge t h w) (zip ts hs ws)
unfolding zip insert_at
zip_insert l zero t h w = refl
zip_insert none (suc i) t h w = refl
zip_insert (more l) (suc i) t h w = rw (zip_insert l i t h w)

zip_delete : {ts hs ws : List ℕ} → Level ts hs ws → (i : ℕ) → zip (delete_at i ts) (delete_at i hs) (delete_at i ws) ≡ delete_at i (zip ts hs ws)
unfolding zip delete_at
zip_delete none i = refl
zip_delete (more l) zero = refl
zip_delete (more l) (suc i) = rw (zip_delete l i)

zip_set : {ts hs ws : List ℕ} → Level ts hs ws → (i w : ℕ) → zip ts hs (set ws i w) ≡ set (zip ts hs ws) i (edge (get_or ts i 0) (get_or hs i 0) w)
unfolding zip
zip_set none i w = refl
zip_set (more l) zero w = refl
zip_set (more l) (suc i) w = rw (zip_set l i w)

zip_columns : {ts hs ws : List ℕ} → Level ts hs ws → (tails_of (zip ts hs ws) ≡ ts) × (heads_of (zip ts hs ws) ≡ hs) × (map (λ e. e.weight) (zip ts hs ws) ≡ ws)
unfolding zip
zip_columns none = (refl, refl, refl)
zip_columns (more l) = let (x, y, z) = zip_columns l in (rw x, rw y, rw z)

-- ---- edges below a count

pub room_less : {m n : ℕ} {ts hs ws : List ℕ} → m ≤ n → Room n ts hs ws → Room m ts hs ws
room_less l r = record { tails = omega arith; heads = omega arith; weights = omega arith }

module _ (ts hs ws : List ℕ) (m : ℕ) (r : Room m ts hs ws) where
  short : length (take m ts) ≡ m
  short = length-take-le m ts r.tails

  cut : Level (take m ts) (take m hs) (take m ws)
  cut = let x = short in let y = length-take-le m hs r.heads in let z = length-take-le m ws r.weights in are_level _ _ _ (omega arith) (omega arith)

  pub edges_length : length (edges ts hs ws m) ≡ m
  unfolding edges
  edges_length = zip_length cut ∙ short

  pub edges_at : (k : ℕ) → k < m → get_or (edges ts hs ws m) k (edge 0 0 0) ≡ edge_at ts hs ws k
  unfolding edges
  edges_at k h = zip_at cut k (omega (arith, short)) ∙ rw (get_or-take m ts k 0 h, get_or-take m hs k 0 h, get_or-take m ws k 0 h)

  -- the edge that stands at index k is one of the edges
  pub edges_mem : (k : ℕ) → k < m → Memᴰ (edge_at ts hs ws k) (edges ts hs ws m)
  edges_mem k h = rw (edges_at k h) at (get_or_mem (edges ts hs ws m) k (edge 0 0 0) (omega (arith, edges_length)))

  pub edges_more : (k : ℕ) → k < m → drop k (edges ts hs ws m) ≡ edge_at ts hs ws k ∷ drop (k + 1) (edges ts hs ws m)
  edges_more k h =
      let l = edges_length in
      let j : k < length (edges ts hs ws m) = omega arith in
      drop-cons (edges ts hs ws m) k (edge 0 0 0) j ∙ rw (edges_at k h, add-one)

  pub edges_none : (k : ℕ) → m ≤ k → drop k (edges ts hs ws m) ≡ []
  edges_none k h =
      let l = edges_length in
      drop_of_length-le (edges ts hs ws m) {i = k} (omega arith)

  -- each list with a word put in at an index, or with one struck
  pub edges_insert : (i t h w : ℕ) (ts' hs' ws' : List ℕ)
      → take (m + 1) ts' ≡ insert_at i t (take m ts) → take (m + 1) hs' ≡ insert_at i h (take m hs) → take (m + 1) ws' ≡ insert_at i w (take m ws)
      → edges ts' hs' ws' (m + 1) ≡ insert_at i (edge t h w) (edges ts hs ws m)
  unfolding edges
  edges_insert i t h w ts' hs' ws' x y z = rw (x, y, z) (zip_insert cut i t h w)

  pub edges_delete : (i : ℕ) (ts' hs' ws' : List ℕ)
      → take (m - 1) ts' ≡ delete_at i (take m ts) → take (m - 1) hs' ≡ delete_at i (take m hs) → take (m - 1) ws' ≡ delete_at i (take m ws)
      → edges ts' hs' ws' (m - 1) ≡ delete_at i (edges ts hs ws m)
  unfolding edges
  edges_delete i ts' hs' ws' x y z = rw (x, y, z) (zip_delete cut i)

  -- a weight stored at an index
  pub edges_set : (i w : ℕ) → i < m → edges ts hs (set ws i w) m ≡ set (edges ts hs ws m) i (edge (get_or ts i 0) (get_or hs i 0) w)
  unfolding edges
  edges_set i w l = rw (take-set-lt m ws i w l, ← (get_or-take m ts i 0 l), ← (get_or-take m hs i 0 l)) (zip_set cut i w)

  -- ---- columns

  pub edges_tails : tails_of (edges ts hs ws m) ≡ take m ts
  unfolding edges
  edges_tails = (zip_columns cut).0

  pub edges_heads : heads_of (edges ts hs ws m) ≡ take m hs
  unfolding edges
  edges_heads = (zip_columns cut).1

  pub edges_weights : map (λ e. e.weight) (edges ts hs ws m) ≡ take m ws
  unfolding edges
  edges_weights = (zip_columns cut).2

-- edges that stand in three lists are read from them, whatever follows
pub edges_back : (fs : List Edge) (a b c : List ℕ)
    → edges (map (λ e. e.tail) fs ++ a) (map (λ e. e.head) fs ++ b) (map (λ e. e.weight) fs ++ c) (length fs) ≡ fs
unfolding edges zip
edges_back [] a b c = refl
edges_back (e ∷ fs) a b c = ap (λ l. e ∷ l) (edges_back fs a b c)
