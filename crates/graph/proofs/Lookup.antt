-- Look-up in the lists of a table, by the words that stand at the place that the order gives. Assumes nothing.
use Rattle.std.specs.Prelude.{Some, None}
use Rattle.property.proofs.Basics.{◌≡◌, sym, ap, ◌∙◌, Bool, true, false, List, ℕ, ◌+◌, ◌-◌, ◌/◌, ◌<◌, ◌≤◌, arith, length, get_or}
use Rattle.property.proofs.Tests.{is_false}
use Rattle.graph.specs.Refusal.{accept}
use Rattle.graph.specs.Edge.{Edge, edge, precedes, edges}
use Rattle.graph.specs.Table.{is_edge, rules}
use Rattle.graph.specs.Code.{Room, edge_at, position, find}
use Rattle.graph.proofs.Sorted.{sorted_upto, sorted_onward}
use Rattle.graph.proofs.Seek.{find_here, find_none}
use Rattle.graph.proofs.Edges.{same_own, same_eq}
use Rattle.graph.proofs.Order.{table_ordered, rules_accept}
use Rattle.graph.proofs.Records.{edges_length, edges_at}

-- ---- halving

pub half : (a b : ℕ) → a < b → a + (b - a) / 2 < b
half a b h = omega arith

module _ (ts hs ws : List ℕ) (m : ℕ) (r : Room m ts hs ws) (n : ℕ) (a : rules n (edges ts hs ws m) ≡ accept) (x : Edge) (mid : ℕ) (l : mid < m) {b : Bool} (e : b ≡ precedes (edge_at ts hs ws mid) x) where
  short : mid < length (edges ts hs ws m)
  short = let z = edges_length ts hs ws m r in omega arith

  pub low_half : b ≡ true → (k : ℕ) → k < mid + 1 → precedes (get_or (edges ts hs ws m) k (edge 0 0 0)) x ≡ true
  low_half h k i = sorted_upto table_ordered (is_edge n) (edge 0 0 0) (edges ts hs ws m) (rules_accept n _ a) x mid short (rw (edges_at ts hs ws m r mid l) (sym e ∙ h)) k (omega arith)

  pub high_half : b ≡ false → (k : ℕ) → mid ≤ k → k < m → precedes (get_or (edges ts hs ws m) k (edge 0 0 0)) x ≡ false
  high_half h k i j =
      let z = edges_length ts hs ws m r in
      sorted_onward table_ordered (is_edge n) (edge 0 0 0) (edges ts hs ws m) (rules_accept n _ a) x mid short (rw (edges_at ts hs ws m r mid l) (sym e ∙ h)) k i (omega arith)

-- ---- find, at the words that stand at the position

module _ (ts hs ws : List ℕ) (m : ℕ) (r : Room m ts hs ws) (n : ℕ) (a : rules n (edges ts hs ws m) ≡ accept) (t h w i : ℕ) (p : i ≡ position (edge t h w) (edges ts hs ws m)) where
  below : i < m → position (edge t h w) (edges ts hs ws m) < length (edges ts hs ws m)
  below l = let z = edges_length ts hs ws m r in omega arith

  there : i < m → get_or (edges ts hs ws m) (position (edge t h w) (edges ts hs ws m)) (edge 0 0 0) ≡ edge_at ts hs ws i
  there l = ap (λ (k : ℕ). get_or (edges ts hs ws m) k (edge 0 0 0)) (sym p) ∙ edges_at ts hs ws m r i l

  pub find_same : i < m → get_or ts i 0 ≡ t → get_or hs i 0 ≡ h → get_or ws i 0 ≡ w → Some i ≡ find (edge t h w) (edges ts hs ws m)
  find_same l e f g = ap Some p ∙ find_here table_ordered (edge 0 0 0) (edge t h w) (edges ts hs ws m) (below l) (rw (there l, e, f, g) (same_own (edge t h w)))

  pub find_other : (i < m → get_or ts i 0 ≡ t → get_or hs i 0 ≡ h → get_or ws i 0 ≡ w → ⊥) → None ≡ find (edge t h w) (edges ts hs ws m)
  find_other ne = find_none table_ordered (edge 0 0 0) (is_edge n) (edge t h w) (edges ts hs ws m) (rules_accept n _ a)
      (λ l. let k : i < m = (let z = edges_length ts hs ws m r in omega arith) in
      rw (there k) (is_false _ (λ q. let z = sym (same_eq (edge t h w) (edge_at ts hs ws i) q) in ne k (ap (λ e. e.tail) z) (ap (λ e. e.head) z) (ap (λ e. e.weight) z))))
