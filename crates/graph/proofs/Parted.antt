-- Where the keys end, and how many are below. Assumes nothing.
use Rattle.property.proofs.Basics.{◌≡◌, ap, ⊎_elim, ◌≢◌, List, [], ◌∷◌, ℕ, zero, suc, ◌+◌, ◌<◌, ◌≤◌, max, arith, dec_lt, length, get_or, set, take, length-take-le, get_or-take, lt-ltb, le-ltb}
use Rattle.graph.specs.Code.{below}
use Rattle.graph.specs.Parted.{Ends, Parted}
use Rattle.graph.proofs.Lists.{at_set}

-- a place that parts the keys says how many are below
pub parted_below : (ks : List ℕ) (u j : ℕ) → Parted (length ks) ks u j → below u ks ≡ j
unfolding below
parted_below [] u j p = let a = p.0 in omega arith
parted_below (x ∷ ks) u zero p = rw (le-ltb x u (p.2 0 (omega arith) (omega arith))) (parted_below ks u zero (omega arith, (λ i l. absurd (omega arith)), (λ i a b. p.2 (suc i) (omega arith) (omega arith))))
parted_below (x ∷ ks) u (suc j) p =
    let a = p.0 in
    rw (lt-ltb x u (p.1 0 (omega arith))) (ap suc (parted_below ks u j (omega arith, (λ i l. p.1 (suc i) (omega arith)), (λ i a b. p.2 (suc i) (omega arith) (omega arith)))))

-- one vertex more
pub parted_turn : (m k c : ℕ) (ks es : List ℕ) → Ends m ks es → Parted m ks k c → Parted m ks (k + 1) (max c (get_or es (k + 1) 0))
parted_turn m k c ks es h p = (
  (let a = p.0 in let b = (h (k + 1)).0 in omega arith),
  (λ i l. under i l (dec_lt i c)),
  (λ i a b. let z = p.2 i (omega arith) b in above i a z b (dec_lt k (get_or ks i 0))),
)
  where
    under : (i : ℕ) → i < max c (get_or es (k + 1) 0) → Dec (i < c) → get_or ks i 0 < k + 1
    under i l (yes d) = let z = p.1 i d in omega arith
    under i l (no d) = (h (k + 1)).1 i (omega arith)

    above : (i : ℕ) → max c (get_or es (k + 1) 0) ≤ i → k ≤ get_or ks i 0 → i < m → Dec (k < get_or ks i 0) → k + 1 ≤ get_or ks i 0
    above i a z b (yes d) = omega arith
    above i a z b (no d) = let w = (h (k + 1)).2 i b (omega arith) in absurd (omega arith)

-- the word after k becomes the greater of itself and the word at k
pub carry_turn : (k v : ℕ) (es₀ es : List ℕ) → k + 1 < length es → v ≡ max (get_or es k 0) (get_or es (k + 1) 0)
    → ((m : ℕ) (ks : List ℕ) → Ends m ks es₀ → (u : ℕ) → u ≤ k → Parted m ks u (get_or es u 0)) → ((u : ℕ) → k < u → get_or es u 0 ≡ get_or es₀ u 0)
    → (m : ℕ) (ks : List ℕ) → Ends m ks es₀ → (u : ℕ) → u ≤ k + 1 → Parted m ks u (get_or (set es (k + 1) v) u 0)
carry_turn k v es₀ es s e h g m ks x u l = ⊎_elim same other (at_set es (k + 1) v u 0 s)
  where
    same : (u ≡ k + 1) × (get_or (set es (k + 1) v) u 0 ≡ v) → Parted m ks u (get_or (set es (k + 1) v) u 0)
    same (p, q) = rw (q, e, g (k + 1) (omega arith), p) (parted_turn m k (get_or es k 0) ks es₀ x (h m ks x k (omega arith)))

    other : (u ≢ k + 1) × (get_or (set es (k + 1) v) u 0 ≡ get_or es u 0) → Parted m ks u (get_or (set es (k + 1) v) u 0)
    other (p, q) = rw q (h m ks x u (omega arith))

-- the places part the keys below the count
pub parted_firsts : (m : ℕ) (ks : List ℕ) (u j : ℕ) → m ≤ length ks → Parted m ks u j → below u (take m ks) ≡ j
parted_firsts m ks u j l p =
    let z = length-take-le m ks l in
    parted_below (take m ks) u j (
      rw z p.0,
      (λ i a. let b = p.0 in rw (get_or-take m ks i 0 (omega arith)) (p.1 i a)),
      (λ i a b. rw (get_or-take m ks i 0 (omega arith)) (p.2 i a (omega arith))),
    )
