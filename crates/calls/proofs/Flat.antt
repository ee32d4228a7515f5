-- Rows written one by one, each behind the rows before it. Assumes nothing.
use Rattle.property.proofs.Basics.{◌≡◌, refl, sym, ap, ◌∙◌, List, [], ◌∷◌, ◌++◌, map, append_assoc, append-nil, ℕ, zero, suc, ◌+◌, ◌-◌, ◌*◌, ◌≤◌, add-one, arith, length, take, drop, length-append, take_at, drop_at, drop-drop}
use borrow.Rule.Slice.PartMut.{put_mid, mid_len}
use Rattle.graph.specs.Refusal.{over}
use Rattle.graph.specs.Edge.{range}
use Rattle.graph.proofs.Lists.{length_range}
use Rattle.run.specs.Run.{State}
use Rattle.network.specs.Network.{flat}
use Rattle.network.proofs.Rows.{length_flat}

-- the part of a row that ends within a list has n words
pub row_size : (n a : ℕ) (xs : List ℕ) → a + n ≤ length xs → length (take (a + n - a) (drop a xs)) ≡ n
row_size n a xs h =
    let e : a + n - a ≡ n = omega arith in
    mid_len a (a + n) xs h ∙ e

-- ---- one row more

range_snoc : (i k : ℕ) → range i (suc k) ≡ range i k ++ ((i + k) ∷ [])
unfolding range
range_snoc i zero =
    let e : i ≡ i + 0 = omega arith in
    ap (λ x. x ∷ []) e
range_snoc i (suc k) =
    let e : suc i + k ≡ i + suc k = omega arith in
    ap (λ l. i ∷ l) (range_snoc (suc i) k ∙ ap (λ x. range (suc i) k ++ (x ∷ [])) e)

pub range_suc : (r : ℕ) → range 0 (r + 1) ≡ range 0 r ++ (r ∷ [])
range_suc r =
    let e : 0 + r ≡ r = omega arith in
    rw (add-one, range_snoc 0 r, e)

-- words put behind those that stand over a list already
pub over_more : (us vs xs : List ℕ) (i j : ℕ) → length us ≡ i → length vs ≡ j → put_mid i j (over us xs) vs ≡ over (us ++ vs) xs
over_more us vs xs i j p q =
    rw (take_at us (drop (length us) xs) i p, drop_at us (drop (length us) xs) i p, drop-drop j (length us) xs, length-append us vs, sym q) (sym (append_assoc us vs _))

-- f r is the state in which the run of row r ends
module _ (f : ℕ → State) where
  pub flat_snoc : (rs : List ℕ) (r : ℕ) → flat (map f (rs ++ (r ∷ []))) ≡ flat (map f rs) ++ (f r).words
  unfolding flat
  flat_snoc [] r = append-nil (f r).words
  flat_snoc (x ∷ rs) r = ap (λ l. (f x).words ++ l) (flat_snoc rs r) ∙ sym (append_assoc (f x).words (flat (map f rs)) (f r).words)

  -- ---- the loop that writes them over a list: nothing at first, a row more at each turn

  pub over_none : (xs : List ℕ) → xs ≡ over (flat (map f (range 0 0))) xs
  unfolding flat range
  over_none xs = refl

  pub over_turn : (n : ℕ) → ((r : ℕ) → length (f r).words ≡ n) → (r : ℕ) (xs ys zs : List ℕ) → ys ≡ over (flat (map f (range 0 r))) xs → zs ≡ (f r).words
      → put_mid (r * n) (r * n + n - r * n) ys zs ≡ over (flat (map f (range 0 (r + 1)))) xs
  over_turn n sized r xs ys zs e q =
      let p : r * n + n - r * n ≡ n = omega arith in
      let l : length (flat (map f (range 0 r))) ≡ r * n = length_flat n f sized (range 0 r) ∙ rw (length_range 0 r) in
      rw (p, e, q, range_suc r, flat_snoc (range 0 r) r) (over_more (flat (map f (range 0 r))) (f r).words xs (r * n) n l (sized r))
