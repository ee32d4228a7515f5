-- The order of edges as one word, and records judged by it: where tails, heads and weights are in range, the edge of the lesser rank comes before.
-- Assumes nothing.
--
--   Sofar n ts hs ws m tall wide all last k == of the first k records, if all of them pass, no tail and weight has bits above the greatest: what is left to
--                                             judge after record k − 1, whose rank is last, gives the verdict, where its tail is a vertex
use Rattle.property.proofs.Basics.{◌≡◌, refl, inl, inr, Bool, true, not, ◌&&◌, List, ℕ, ◌+◌, ◌-◌, ◌*◌, ◌%◌, ◌≤◌, ◌<◌, dec_lt, arith, get_or, drop, eqb, ltb, lt-ltb, ltb-true, le-leb, leb-true}
use lib.Bits.{bit_or, or_add_and, and_le_l, and_le_r, or_shifted}
use lib.Dec.{leb}
use Rattle.graph.specs.Limits.{max_vertices, max_weight}
use Rattle.graph.specs.Edge.{Edge, edge, precedes, edges}
use Rattle.graph.specs.Table.{is_edge, follow, rules}
use Rattle.graph.specs.Code.{Room, edge_at, rank_of}
use Rattle.graph.proofs.Tests.{both, and_true}
use Rattle.graph.proofs.Order.{of_less, precedes_tail, edge_facts}
use Rattle.graph.proofs.Judging.{rules_first, follow_more}

-- ---- a rank

pub rank_is : (t h w : ℕ) → t < max_vertices → h < max_vertices → w ≤ max_weight
    → bit_or (bit_or (t * 16777216 % 4294967296) (h * 65536 % 4294967296)) w ≡ rank_of (edge t h w)
rank_is t h w a b c =
    let p : t * 16777216 % 4294967296 ≡ t * 16777216 = omega arith in
    let q : h * 65536 % 4294967296 ≡ h * 65536 = omega arith in
    let r : t * 16777216 + h * 65536 ≡ (t * max_vertices + h) * 65536 = omega arith in
    rw (p, q, or_shifted t 24 (h * 65536) (omega arith), r, or_shifted (t * max_vertices + h) 16 w (omega arith)) refl

pub rank_before : (e f : Edge) → e.head < max_vertices → e.weight ≤ max_weight → f.head < max_vertices → f.weight ≤ max_weight → rank_of e < rank_of f → precedes e f ≡ true
rank_before e f a b c d l = of_less e f (elim (dec_lt e.tail f.tail) [
  | yes p ↦ inl p
  | no p ↦ inr (omega arith, elim (dec_lt e.head f.head) [ yes q ↦ inl q | no q ↦ inr (omega arith, omega arith) ])
])

-- bits put together are no fewer than those of either
pub or_above : (a b : ℕ) → (a ≤ bit_or a b) × (b ≤ bit_or a b)
or_above a b = (omega (arith, or_add_and a b, and_le_r a b), omega (arith, or_add_and a b, and_le_l a b))

-- ---- the records so far

module _ (n : ℕ) (ts hs ws : List ℕ) (m : ℕ) where
  abbrev pub Sofar : ℕ → ℕ → Bool → ℕ → ℕ → Type 0
  Sofar tall wide all last k =
      all ≡ true → tall < max_vertices → wide ≤ max_weight
      → (n ≤ max_vertices) × (get_or hs (k - 1) 0 < n) × (get_or ws (k - 1) 0 ≤ max_weight) × (last ≡ rank_of (edge_at ts hs ws (k - 1)))
      × (get_or ts (k - 1) 0 < n → follow n k (edge_at ts hs ws (k - 1)) (drop k (edges ts hs ws m)) ≡ rules n (edges ts hs ws m))

  pub sofar_first : Room m ts hs ws → 0 < m → (last : ℕ) → (get_or ts 0 0 < max_vertices → get_or hs 0 0 < max_vertices → get_or ws 0 0 ≤ max_weight → last ≡ rank_of (edge_at ts hs ws 0))
      → Sofar (get_or ts 0 0) (get_or ws 0 0) (leb n max_vertices && is_edge n (edge_at ts hs ws 0)) last 1
  sofar_first room l last r h i j =
      let (a, b) = both (leb n max_vertices) _ h in
      let c = leb-true n max_vertices a in
      let f = edge_facts n (edge_at ts hs ws 0) b in
      let d = f.head_below in
      (c, d, j, r i (omega arith) j, λ _. rules_first ts hs ws m room n l b)

  pub sofar_turn : Room m ts hs ws → (tall wide : ℕ) (all : Bool) (last k : ℕ) → 1 ≤ k → k < m → Sofar tall wide all last k → (next : ℕ)
      → (get_or ts k 0 < max_vertices → get_or hs k 0 < max_vertices → get_or ws k 0 ≤ max_weight → next ≡ rank_of (edge_at ts hs ws k))
      → Sofar (bit_or tall (get_or ts k 0)) (bit_or wide (get_or ws k 0))
      (all && (ltb (get_or hs k 0) n && (not (eqb (get_or ts k 0) (get_or hs k 0)) && (ltb 0 (get_or ws k 0) && ltb last next)))) next (k + 1)
  sofar_turn room tall wide all last k a l s next r h i j =
      let t = get_or ts k 0 in
      let g = get_or hs k 0 in
      let w = get_or ws k 0 in
      let (b, c) = both all _ h in
      let (d, e) = both (ltb g n) _ c in
      let (o, p) = both (not (eqb t g)) _ e in
      let (u, v) = both (ltb 0 w) (ltb last next) p in
      let (x, y) = or_above tall t in
      let (x', y') = or_above wide w in
      let (few, low, light, rank, judged) = s b (omega arith) (omega arith) in
      let d' = ltb-true g n d in
      let v' = ltb-true last next v in
      let q : next ≡ rank_of (edge_at ts hs ws k) = r (omega arith) (omega arith) (omega arith) in
      let z = rank_before (edge_at ts hs ws (k - 1)) (edge_at ts hs ws k) (omega arith) light (omega arith) (omega arith) (omega arith) in
      let back : k + 1 - 1 ≡ k = omega arith in
      let step = precedes_tail (edge_at ts hs ws (k - 1)) (edge_at ts hs ws k) z in
      let own : (not (eqb t g) && (ltb 0 w && leb w max_weight)) ≡ true = and_true o (and_true u (le-leb w max_weight (omega arith))) in
      rw back (few, d', omega arith, q, λ f. rw back at (follow_more ts hs ws m room n k (judged (omega arith)) l (and_true z (and_true (lt-ltb t n f) (and_true d own)))))
