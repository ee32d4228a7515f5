-- A table that is written over another. Assumes nothing.
use Rattle.property.proofs.Basics.{◌≡◌, ap, ◌∙◌, List, ◌++◌, ℕ, ◌-◌, ◌≤◌, arith, length, take, replicate, length-replicate, paste, length-take-le}
use borrow.Rule.Slice.PartMut.{mid_of, put_mid, mid_len}
use Rattle.graph.specs.Limits.{max_edges}
use Rattle.graph.specs.Refusal.{over}
use Rattle.graph.specs.Edge.{edges}
use Rattle.graph.specs.Code.{Room, columns}
use Rattle.graph.proofs.Copies.{paste_front}
use Rattle.graph.proofs.Records.{edges_length, edges_tails, edges_heads, edges_weights}
use Rattle.network.specs.Batch.{rewritten}
use Rattle.network.proofs.Items.{length_over}
use Rattle.calls.proofs.Flat.{over_more}

-- ---- a list of words over another

-- new words to the front of a list, and zeros behind them up to 2,048
pub words_written : (m : ℕ) (new old xs ys : List ℕ) → m ≤ max_edges → m ≤ length new → max_edges ≤ length old
    → xs ≡ paste old 0 new m → ys ≡ replicate (length (mid_of m (max_edges - m) xs)) 0
    → put_mid m (max_edges - m) xs ys ≡ over (take m new ++ replicate (max_edges - m) 0) old
words_written m new old xs ys l h k d e =
    let front = length-take-le m new h in
    let p : xs ≡ over (take m new) old = d ∙ paste_front m new old h in
    let q : ys ≡ replicate (max_edges - m) 0 = rw (mid_len m max_edges xs (omega (arith, ap length p, length_over (take m new) old (omega arith)))) at e in
    rw (p, q) (over_more (take m new) (replicate (max_edges - m) 0) old m (max_edges - m) front (length-replicate (max_edges - m) 0))

-- ---- the three lists of a table

module _ (ts hs ws : List ℕ) (m : ℕ) (r : Room m ts hs ws) where
  pub table_written : (a b c : List ℕ) {x y z : List ℕ} → x ≡ over (take m ts ++ replicate (max_edges - m) 0) a
      → y ≡ over (take m hs ++ replicate (max_edges - m) 0) b → z ≡ over (take m ws ++ replicate (max_edges - m) 0) c
      → columns x y z ≡ rewritten (edges ts hs ws m) (columns a b c)
  table_written a b c p q s =
      rw (edges_length ts hs ws m r, edges_tails ts hs ws m r, edges_heads ts hs ws m r, edges_weights ts hs ws m r) (λ i. columns (p i) (q i) (s i))
