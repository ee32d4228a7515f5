-- The head and the weight of an arc, and the parts of an index. Assumes nothing.
use Rattle.property.proofs.Basics.{◌≡◌, refl, sym, ap, ◌∙◌, ⊎_elim, List, [], ◌∷◌, ◌++◌, Memᴰ, Memᴰ-head, Memᴰ-tail, Memᴰ-cases_cons, Memᴰ-not_nil, ℕ, zero, suc, ◌+◌, ◌-◌, ◌≤◌, ◌<◌, ℕ_discrete, add-zero, arith, length, get_or}
use Rattle.graph.specs.Arc.{arc_weights, arc, arc_head, arc_weight}
use Rattle.graph.specs.Edge.{Edge, edge}
use Rattle.graph.specs.Index.{part_in, edge_of, part, own, Fit, Own}
use Rattle.graph.proofs.Edges.{leaving_in, in_leaving}

pub head_arc : (h w : ℕ) → w < arc_weights → arc_head (arc h w) ≡ h
head_arc h w l = omega arith

pub weight_arc : (h w : ℕ) → w < arc_weights → arc_weight (arc h w) ≡ w
weight_arc h w l = omega arith

-- ---- parts

pub part_same : (is js : List ℕ) (u j k : ℕ) → ((i : ℕ) → j ≤ i → i < j + k → get_or is i 0 ≡ get_or js i 0) → part is u j k ≡ part js u j k
unfolding part_in
part_same is js u j zero h = refl
part_same is js u j (suc k) h = rw (h j (omega arith) (omega arith), part_same is js u (suc j) k (λ i a b. h i (omega arith) (omega arith)))

pub part_last : (is : List ℕ) (u j k : ℕ) → part is u j (suc k) ≡ part is u j k ++ (edge_of is u (j + k) ∷ [])
unfolding part_in
part_last is u j zero = rw (add-zero j)
part_last is u j (suc k) = let e : suc j + k ≡ j + suc k = omega arith in rw (part_last is u (suc j) k, e)

pub part_at : (is : List ℕ) (u j k i : ℕ) → i < k → get_or (part is u j k) i (edge 0 0 0) ≡ edge_of is u (j + i)
unfolding part_in
part_at is u j zero i l = absurd (omega arith)
part_at is u j (suc k) zero l = rw (add-zero j)
part_at is u j (suc k) (suc i) l = let e : suc j + i ≡ j + suc i = omega arith in part_at is u (suc j) k i (omega arith) ∙ ap (λ (x : ℕ). edge_of is u x) e

-- ---- an index has the edges of a vertex

-- an arc of u lies within the list, and its head is a vertex
pub fit_arc : {n : ℕ} {is : List ℕ} → Fit n is → (u k : ℕ) → u < n → get_or is u 0 ≤ k → k < get_or is (u + 1) 0 → (k < length is) × (arc_head (get_or is k 0) < n)
fit_arc f u k h a b =
    let w = f.within u h in
    let x = f.after u (omega arith) in
    (omega (arith, f.heads), f.inside k (omega arith) (omega arith))

part_mem : (is : List ℕ) (u j c k : ℕ) → j ≤ k → k < j + c → Memᴰ (edge_of is u k) (part is u j c)
unfolding part_in
part_mem is u j zero k a b = absurd (omega arith)
part_mem is u j (suc c) k a b = elim (ℕ_discrete k j) [
  | yes e ↦ Memᴰ-head (ap (λ (i : ℕ). edge_of is u i) e)
  | no d ↦ Memᴰ-tail (part_mem is u (suc j) c k (omega arith) (omega arith))
]

pub mem_part : (is : List ℕ) (u j c : ℕ) (e : Edge) → Memᴰ e (part is u j c)
    → (k : ℕ) × (j ≤ k) × (k < j + c) × (edge_of is u k ≡ e)
unfolding part_in
mem_part is u j zero e m = absurd (Memᴰ-not_nil m)
mem_part is u j (suc c) e m =
    ⊎_elim (λ p. (j, omega arith, omega arith, sym p))
    (λ i. let z = mem_part is u (suc j) c e i in let a = z.1 in let b = z.2 in (z.0, omega arith, omega arith, z.3)) (Memᴰ-cases_cons m)

module _ (n : ℕ) (is : List ℕ) (es : List Edge) (o : Own n is es) where
  pub own_reads : (u k : ℕ) → u < n → get_or is u 0 ≤ k → k < get_or is (u + 1) 0 → Memᴰ (edge_of is u k) es
  own_reads u k h a b =
      let z : Memᴰ (edge_of is u k) (own is u) = part_mem is u (get_or is u 0) (get_or is (u + 1) 0 - get_or is u 0) k a (omega arith) in
      (leaving_in u es _ (rw (o u h) at z)).0

  pub own_whole : (u : ℕ) (e : Edge) → u < n → e.tail ≡ u → Memᴰ e es
      → (k : ℕ) × (get_or is u 0 ≤ k) × (k < get_or is (u + 1) 0) × (edge_of is u k ≡ e)
  own_whole u e h q m =
      let i : Memᴰ e (own is u) = rw (o u h) (in_leaving u m q) in
      let z = mem_part is u (get_or is u 0) (get_or is (u + 1) 0 - get_or is u 0) e i in
      let a = z.1 in
      let b = z.2 in
      (z.0, a, omega arith, z.3)
