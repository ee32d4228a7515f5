-- The rows of one side of a batch, one after the other: what the loop over them keeps. Assumes nothing.
--
--   Counting xs ys a s r k           == of k rows the first r are done, ys is as long as xs, and a and s are no larger than their affected vertices and
--                                       stores can be
--   Rowing n ls es fs xs ys a s r    == ys is the list xs with the new words of those rows over it, and a and s are their affected vertices and stores
use Rattle.property.proofs.Basics.{◌≡◌, refl, sym, ap, ◌∙◌, List, [], ◌∷◌, ◌++◌, map, ℕ, ◌+◌, ◌-◌, ◌*◌, ◌≤◌, ◌<◌, arith, length, take, drop, drop_at}
use borrow.Rule.Slice.PartMut.{mid_of, put_mid, same_len_mid}
use Rattle.frontier.specs.Waiting.{count_of}
use Rattle.graph.specs.Limits.{max_vertices, max_edges}
use Rattle.graph.specs.Refusal.{over}
use Rattle.graph.specs.Edge.{Edge, range}
use Rattle.graph.proofs.Lists.{length_range}
use Rattle.run.specs.Run.{State}
use Rattle.rows.specs.declared.Rowed.{Rowed}
use Rattle.network.specs.Network.{row_count, row, flat, stores_of}
use Rattle.network.specs.Batch.{affected_in, batch_row, affected_over}
use Rattle.network.proofs.Rows.{length_flat, batch_sized}
use Rattle.rows.specs.Code.{RowLow, RowDone, RowsLow, RowsDone}
use Rattle.calls.proofs.Flat.{range_suc, over_turn}

-- ---- how large

pub record Counting (xs ys : List ℕ) (a s r k : ℕ) : Type 0 where
  pub few : a ≤ r * max_vertices
  pub low : s ≤ r * (max_vertices * max_vertices * max_edges)
  pub within : r ≤ k
  pub size : length ys ≡ length xs

pub counting_start : (xs : List ℕ) (k : ℕ) → Counting xs xs 0 0 0 k
counting_start xs k = record { few = omega arith; low = omega arith; within = omega arith; size = refl }

pub counting_turn : (n : ℕ) (xs ys : List ℕ) (a s r k : ℕ) → Counting xs ys a s r k → r < k → (zs : List ℕ) (b : Rowed)
    → length zs ≡ length (mid_of (r * n) (r * n + n - r * n) ys) → RowLow b → Counting xs (put_mid (r * n) (r * n + n - r * n) ys zs) (a + b.affected) (s + b.stores) (r + 1) k
counting_turn n xs ys a s r k v h zs b l d = record {
  few = (let x = v.few in let y = d.few in omega arith);
  low = (let x = v.low in let y = d.low in omega arith);
  within = omega arith;
  size = same_len_mid (r * n) (r * n + n - r * n) ys zs l ∙ v.size;
}

pub counting_done : (xs ys ls : List ℕ) (a s r : ℕ) (b : Rowed) → length ls ≤ 4 → Counting xs ys a s r (row_count ls) → row_count ls ≤ r → b.affected ≡ a → b.stores ≡ s → RowsLow b
counting_done xs ys ls a s r b few v h q t =
    let e : r ≡ row_count ls = (let x = v.within in omega arith) in
    record { few = (let x = v.few in omega arith); low = (let x = v.low in omega arith) }

-- ---- what they are

stores_snoc : (f : ℕ → State) (rs : List ℕ) (r : ℕ) → stores_of (map f (rs ++ (r ∷ []))) ≡ stores_of (map f rs) + (f r).tally.stores
unfolding stores_of
stores_snoc f [] r = omega arith
stores_snoc f (x ∷ rs) r = let z = stores_snoc f rs r in omega arith

module _ (n : ℕ) (ls : List ℕ) (es fs : List Edge) (xs : List ℕ) where
  affected_snoc : (rs : List ℕ) (r : ℕ) → affected_over n ls es fs xs (rs ++ (r ∷ [])) ≡ affected_over n ls es fs xs rs + count_of (affected_in n ls es fs xs r)
  unfolding affected_over
  affected_snoc [] r = omega arith
  affected_snoc (x ∷ rs) r = let z = affected_snoc rs r in omega arith

  abbrev f : ℕ → State
  f = batch_row n ls es fs xs

  pub record Rowing (ys : List ℕ) (a s r : ℕ) : Type 0 where
    pub words : ys ≡ over (flat (map f (range 0 r))) xs
    pub affected : a ≡ affected_over n ls es fs xs (range 0 r)
    pub stores : s ≡ stores_of (map f (range 0 r))

  pub rows_start : Rowing xs 0 0 0
  unfolding flat range affected_over stores_of
  rows_start = record { words = refl; affected = refl; stores = refl }

  module _ (ys : List ℕ) (a s r : ℕ) (w : Rowing ys a s r) where
    done : length (flat (map f (range 0 r))) ≡ r * n
    done = length_flat n f (batch_sized n ls es fs xs) (range 0 r) ∙ rw (length_range 0 r)

    -- the rows that are left stand as they stood
    rest : drop (r * n) ys ≡ drop (r * n) xs
    rest = rw w.words (drop_at (flat (map f (range 0 r))) _ (r * n) done ∙ ap (λ (i : ℕ). drop i xs) done)

    pub rows_turn : (zs : List ℕ) (b : Rowed) → RowDone n ls es fs (take (r * n + n - r * n) (drop (r * n) ys)) r zs b
        → Rowing (put_mid (r * n) (r * n + n - r * n) ys zs) (a + b.affected) (s + b.stores) (r + 1)
    rows_turn zs b d =
        let p : r * n + n - r * n ≡ n = omega arith in
        let e : RowDone n ls es fs (row n r xs) r zs b = rw (p, rest) at d in
        record {
          words = over_turn f n (batch_sized n ls es fs xs) r xs ys zs w.words e.words;
          affected = rw (w.affected, e.affected, range_suc r) (sym (affected_snoc (range 0 r) r));
          stores = rw (w.stores, e.stores, range_suc r) (sym (stores_snoc f (range 0 r) r));
        }

    pub rows_done : (b : Rowed) → r ≡ row_count ls → b.affected ≡ a → b.stores ≡ s → RowsDone n ls es fs xs ys b
    rows_done b e q t = record { words = rw e at w.words; affected = q ∙ rw e at w.affected; stores = t ∙ rw e at w.stores }
