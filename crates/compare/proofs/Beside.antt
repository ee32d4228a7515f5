-- Beside each arc of an index, what the batch made of it: the changes are gone over one by one, and so are the places of each. Assumes nothing.
--
--   Stored p v j os ys == of the places below j, those that p holds of have the word v in ys; all others have what they had in os
--   Aligned xs is k os == the first k changes are gone over: beside each arc stands the weight that is in its place after the batch, or else its own,
--                         where none of these changes is of its edge
--
-- A change tells of the place of its edge as it was before, and of no other, since the places of a vertex are no other's. It leaves the weight
-- after the batch there. An edge of no change stays, so that its own weight, which the copy of the index has, is the one after the batch.
use Rattle.property.proofs.Basics.{◌≡◌, refl, sym, ap, subst, ◌∙◌, ◌⊎◌, inl, inr, ⊎_elim, Bool, true, cond, true≢false, List, ℕ, zero, suc, ◌+◌, ◌*◌, ◌≤◌, ◌<◌, ℕ_discrete, dec_lt, add-one, arith, length, get_or, set, length-set, get_or-set_same, get_or-set_other, eqb, leb, ltb, eqb-true, eq-eqb, leb-true, ltb-true, le-leb, lt-ltb}
use Rattle.property.proofs.Tests.{by_test}
use Rattle.graph.specs.Arc.{arc, arc_head, arc_weight}
use Rattle.graph.specs.Edge.{Edge, edge, among}
use Rattle.graph.specs.Index.{edge_of, Fit, Own}
use Rattle.graph.proofs.Tests.{both}
use Rattle.graph.proofs.Arcs.{own_reads}
use Rattle.affected.specs.Net.{counterpart}
use Rattle.affected.proofs.Net.{kept_weight}
use Rattle.compare.specs.Code.{before, changes_in, Inside, Differences, tells_of, Faces}

-- ---- the places of a change

pub record Stored (p : ℕ → Bool) (v j : ℕ) (os ys : List ℕ) : Type 0 where
  pub size : length ys ≡ length os
  pub done : (i : ℕ) → i < j → get_or ys i 0 ≡ cond (p i) v (get_or os i 0)
  pub rest : (i : ℕ) → j ≤ i → get_or ys i 0 ≡ get_or os i 0

module _ (p : ℕ → Bool) (v j : ℕ) (os : List ℕ) where
  pub stored_turn : (w : ℕ) (ys : List ℕ) → Stored p v j os ys → j < length ys → w ≡ cond (p j) v (get_or ys j 0) → Stored p v (j + 1) os (set ys j w)
  stored_turn w ys t l q = record {
    size = length-set ys j w ∙ t.size;
    done = λ i b. at i b (ℕ_discrete i j);
    rest = λ i b. get_or-set_other ys j i w 0 (λ e. omega arith) ∙ t.rest i (omega arith);
  }
    where
      at : (i : ℕ) → i < j + 1 → Dec (i ≡ j) → get_or (set ys j w) i 0 ≡ cond (p i) v (get_or os i 0)
      at i b (yes e) = rw e (get_or-set_same ys j w 0 l ∙ q ∙ ap (cond (p j) v) (t.rest j (omega arith)))
      at i b (no d) = get_or-set_other ys j i w 0 d ∙ t.done i (omega arith)

-- ---- a place has one edge

places_rise : {n : ℕ} {is : List ℕ} → Fit n is → (t u : ℕ) → u ≤ t → t ≤ n → get_or is u 0 ≤ get_or is t 0
places_rise f zero u a l = let e : u ≡ 0 = omega arith in rw e (omega arith)
places_rise f (suc t) u a l = elim (ℕ_discrete u (suc t)) [
  | yes e ↦ rw e (omega arith)
  | no d ↦ rw (← (add-one t)) (omega (arith, f.rising t (omega arith), places_rise f t u (omega arith) (omega arith)))
]

places_once : {n : ℕ} {is : List ℕ} → Fit n is → (u t j : ℕ) → u < n → t < n → get_or is u 0 ≤ j → j < get_or is (u + 1) 0 → get_or is t 0 ≤ j → j < get_or is (t + 1) 0 → u ≡ t
places_once f u t j k l a b c d = pick (dec_lt u t) (dec_lt t u)
  where
    pick : Dec (u < t) → Dec (t < u) → u ≡ t
    pick (yes x) y = let z = places_rise f t (u + 1) (omega arith) (omega arith) in absurd (omega arith)
    pick (no x) (yes y) = let z = places_rise f u (t + 1) (omega arith) (omega arith) in absurd (omega arith)
    pick (no x) (no y) = omega arith

module _ (xs is : List ℕ) (k j t : ℕ) (e : t ≡ (before xs k).tail) where
  pub tells_place : tells_of xs is k j ≡ true → (get_or is t 0 ≤ j) × (j < get_or is (t + 1) 0) × (get_or is j 0 ≡ arc (before xs k).head (before xs k).weight)
  tells_place h =
      let (a, q) = both (leb (get_or is (before xs k).tail 0) j) _ h in
      let (b, c) = both (ltb j (get_or is ((before xs k).tail + 1) 0)) _ q in
      rw e (leb-true _ _ a, ltb-true _ _ b, eqb-true _ _ c)

  pub tells_test : (x : ℕ) → x ≡ arc (before xs k).head (before xs k).weight → get_or is t 0 ≤ j → j < get_or is (t + 1) 0 → tells_of xs is k j ≡ eqb (get_or is j 0) x
  tells_test x q a b = rw (← e, ← q, le-leb (get_or is t 0) j a, lt-ltb j (get_or is (t + 1) 0) b)

module _ (xs is : List ℕ) (k u j : ℕ) (a : get_or is u 0 ≤ j) (b : j < get_or is (u + 1) 0) where
  edge_told : before xs k ≡ edge_of is u j → tells_of xs is k j ≡ true
  edge_told q =
      let v = ap (λ (e : Edge). e.head) q in
      let w = ap (λ (e : Edge). e.weight) q in
      tells_test xs is k j u (ap (λ (e : Edge). e.tail) (sym q)) (get_or is j 0) (omega arith) a b ∙ eq-eqb (get_or is j 0) _ refl

  told_edge : {n : ℕ} → Inside n xs → Fit n is → 2 * k < length xs → u < n → tells_of xs is k j ≡ true → before xs k ≡ edge_of is u j
  told_edge i f l h q =
      let (x, y, z) = tells_place xs is k j _ refl q in
      let t = places_once f (before xs k).tail u j (i (2 * k) l) h x y a b in
      let v : (before xs k).head ≡ arc_head (get_or is j 0) = omega arith in
      let w : (before xs k).weight ≡ arc_weight (get_or is j 0) = omega arith in
      λ r. edge (t r) (v r) (w r)

-- ---- all changes

abbrev pub Aligned : List ℕ → List ℕ → ℕ → List ℕ → Type 0
Aligned xs is k os =
    (n : ℕ) (es fs : List Edge) → Inside n xs → Fit n is → Own n is es → Differences es fs xs → (u j : ℕ) → u < n → get_or is u 0 ≤ j → j < get_or is (u + 1) 0
    → (counterpart es fs (edge_of is u j) ≡ arc_weight (get_or os j 0)) ⊎ ((arc_weight (get_or is j 0) ≡ arc_weight (get_or os j 0)) × ((i : ℕ) → i < k → before xs i ≡ edge_of is u j → ⊥))

module _ (xs is os : List ℕ) where
  pub aligned_turn : (ys : List ℕ) (k : ℕ) → k < changes_in xs → ((j : ℕ) → get_or ys j 0 ≡ cond (tells_of xs is k j) (get_or xs (2 * k + 1) 0) (get_or os j 0)) → Aligned xs is k os → Aligned xs is (k + 1) ys
  aligned_turn ys k l q s n es fs i f o d u j h a b = by_test (tells_of xs is k j)
      (λ e.
      let z = told_edge xs is k u j a b i f (omega arith) h e in
      let w = subst (λ (x : Edge). 0 < x.weight) (sym z) (d.old.lacks.weighs _ (own_reads n is es o u j h a b)) in
      inl (ap (counterpart es fs) (sym z) ∙ d.old.other k l w ∙ ap arc_weight (sym (q j ∙ rw e))))
      (λ e.
      let y = ap arc_weight (sym (q j ∙ rw e)) in
      ⊎_elim (λ p. inl (p ∙ y)) (λ p. inr (
        p.0 ∙ y,
        λ m c z. elim (ℕ_discrete m k) [
          | yes g ↦ true≢false (sym (edge_told xs is k u j a b (rw g at z)) ∙ e)
          | no g ↦ p.1 m (omega arith) z
        ],
      )) (s n es fs i f o d u j h a b))

  pub aligned_done : (k : ℕ) → changes_in xs ≤ k → Aligned xs is k os → (n : ℕ) (es fs : List Edge) → Inside n xs → Fit n is → Own n is es → Differences es fs xs → Faces n es fs is os
  aligned_done k g s n es fs i f o d u j h a b = ⊎_elim (λ p. p) (λ p. by_test (among fs (edge_of is u j)) (λ e. kept_weight es fs (edge_of is u j) e ∙ p.0) (λ e.
      let (m, l, q) = d.old.lacks.all (edge_of is u j) (own_reads n is es o u j h a b) e in
      absurd (p.1 m (omega arith) q))) (s n es fs i f o d u j h a b)
