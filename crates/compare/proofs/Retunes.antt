-- Edges that one of two tables lacks, in table order: which of them are a retune, and what is listed where each retune is one change. Assumes nothing.
--
--   Split es fs g c o  == the edges c k, of k below g, ascend; where o k holds they are those of es that fs lacks, and else those of fs that es lacks
--   Retunes g c o k    == c k and c (k + 1) are all of their pair, and one of them is of es
--   Told g t h w v c o == c k has the tail t k and the head h k, and the weight w k, where o k holds, or else v k; the other of the two is 0
--   Made g o r w v x y == x and y are w and v, but where r k holds change k has both weights, and change k + 1 none
--
-- Edges of one pair stand side by side, since the order goes by pair first, and no two are the same. So a pair has just one edge of es and one of fs where
-- two neighbours are of one pair and differ in o, and no edge before or after them is of their pair.
use Rattle.property.proofs.Basics.{◌≡◌, sym, ap, ◌∙◌, ◌⊎◌, inl, inr, ⊎_elim, ◌≢◌, Bool, true, false, not, ◌&&◌, true≢false, List, Memᴰ, ℕ, ◌+◌, ◌-◌, ◌≤◌, ◌<◌, ℕ_discrete, dec_lt, arith, ltb, ltb-true, lt-ltb, eqb, eqb-true, eqb-false, not-true, not-false}
use Rattle.property.proofs.Tests.{by_test, is_false}
use Rattle.graph.specs.Edge.{Edge, edge, same, same_pair, among, precedes}
use Rattle.graph.proofs.Tests.{both}
use Rattle.graph.proofs.Edges.{pair_ends, ends_pair, same_own, among_mem}
use Rattle.graph.proofs.Simple.{pair_turn}
use Rattle.graph.proofs.Order.{Less, less_of, table_ordered}
use Rattle.affected.specs.Net.{counterpart, Retuned}
use Rattle.affected.proofs.Net.{lacked, Plain, counterpart_retuned, retuned_weight}
use Rattle.compare.specs.Code.{Lists}

-- ---- pairs

pair_through : (e x y : Edge) → same_pair e x ≡ true → same_pair e y ≡ true → same_pair x y ≡ true
pair_through e x y p q = let a = pair_ends e x p in let b = pair_ends e y q in ends_pair x y (sym a.0 ∙ b.0) (sym a.1 ∙ b.1)

pair_back : (x y : Edge) → same_pair x y ≡ true → same_pair y x ≡ true
pair_back x y p = pair_turn y x ∙ p

-- what lies between two edges of one pair is of the pair
pair_between : (x y z : Edge) → precedes x y ≡ true → precedes y z ≡ true → same_pair x z ≡ true → same_pair x y ≡ true
pair_between x y z h k q =
    let (a, b) = ends x y (less_of x y h) in
    let (c, d) = ends y z (less_of y z k) in
    let (p, r) = pair_ends x z q in
    let t : x.tail ≡ y.tail = omega arith in
    let u = b t in
    let v = d (sym t ∙ p) in
    ends_pair x y t (omega arith)
  where
    ends : (e f : Edge) → Less e f → (e.tail ≤ f.tail) × (e.tail ≡ f.tail → e.head ≤ f.head)
    ends e f (inl a) = (omega arith, λ q. absurd (omega arith))
    ends e f (inr (p, inl b)) = (omega arith, λ q. omega arith)
    ends e f (inr (p, inr (b, c))) = (omega arith, λ q. omega arith)

-- ---- the edges that one of the tables lacks

pub record Split (es fs : List Edge) (g : ℕ) (c : ℕ → Edge) (o : ℕ → Bool) : Type 0 where
  pub old : (k : ℕ) → k < g → o k ≡ true → Memᴰ (c k) es × (among fs (c k) ≡ false)
  pub new : (k : ℕ) → k < g → o k ≡ false → Memᴰ (c k) fs × (among es (c k) ≡ false)
  pub all_old : (e : Edge) → Memᴰ e es → among fs e ≡ false → (k : ℕ) × (k < g) × (o k ≡ true) × (c k ≡ e)
  pub all_new : (e : Edge) → Memᴰ e fs → among es e ≡ false → (k : ℕ) × (k < g) × (o k ≡ false) × (c k ≡ e)
  pub rises : (i j : ℕ) → i < j → j < g → precedes (c i) (c j) ≡ true

pub record Retunes (g : ℕ) (c : ℕ → Edge) (o : ℕ → Bool) (k : ℕ) : Type 0 where
  pub next : k + 1 < g
  pub pair : same_pair (c k) (c (k + 1)) ≡ true
  pub first : 0 < k → same_pair (c (k - 1)) (c k) ≡ false
  pub last : k + 2 < g → same_pair (c k) (c (k + 2)) ≡ false
  pub apart : o (k + 1) ≡ not (o k)

-- the tables change places
pub split_flip : {es fs : List Edge} {g : ℕ} {c : ℕ → Edge} {o : ℕ → Bool} → Split es fs g c o → Split fs es g c (λ k. not (o k))
split_flip s = record {
  old = λ k l q. s.new k l (not-true _ q);
  new = λ k l q. s.old k l (not-false _ q);
  all_old = λ e m q. let (k, l, p, z) = s.all_new e m q in (k, l, ap not p, z);
  all_new = λ e m q. let (k, l, p, z) = s.all_old e m q in (k, l, ap not p, z);
  rises = s.rises;
}

pub retunes_flip : {g : ℕ} {c : ℕ → Edge} {o : ℕ → Bool} {k : ℕ} → Retunes g c o k → Retunes g c (λ k. not (o k)) k
retunes_flip r = record { next = r.next; pair = r.pair; first = r.first; last = r.last; apart = ap not r.apart }

pub retunes_back : {g : ℕ} {c : ℕ → Edge} {o : ℕ → Bool} {k : ℕ} → Retunes g c (λ k. not (o k)) k → Retunes g c o k
retunes_back r = record { next = r.next; pair = r.pair; first = r.first; last = r.last; apart = not_once _ _ r.apart }
  where
    not_once : (a b : Bool) → not a ≡ not b → a ≡ b
    not_once a true h = not-false a h
    not_once a false h = not-true a h

retuned_flip : {es fs : List Edge} {e f : Edge} → Retuned fs es f e → Retuned es fs e f
retuned_flip {e = e} {f = f} r = record {
  pair = pair_back f e r.pair;
  old = r.new;
  new = r.old;
  sole_old = λ x m p d. r.sole_new x m (pair_through e f x (pair_back f e r.pair) p) d;
  sole_new = λ x m p d. r.sole_old x m (pair_through e f x (pair_back f e r.pair) p) d;
}

module _ {es fs : List Edge} {g : ℕ} {c : ℕ → Edge} {o : ℕ → Bool} (s : Split es fs g c o) where
  index_one : (i j : ℕ) → i < g → j < g → c i ≡ c j → i ≡ j
  index_one i j k l q = pick (dec_lt i j) (dec_lt j i)
    where
      clash : (a b : ℕ) → a < b → b < g → c a ≡ c b → ⊥
      clash a b m n p = true≢false (sym (same_own (c a)) ∙ ap (same (c a)) p ∙ table_ordered.apart (c a) (c b) (s.rises a b m n))

      pick : Dec (i < j) → Dec (j < i) → i ≡ j
      pick (yes m) d = absurd (clash i j m l q)
      pick (no m) (yes d) = absurd (clash j i d k (sym q))
      pick (no m) (no d) = omega arith

  between : (i m j : ℕ) → i < m → m < j → j < g → same_pair (c i) (c j) ≡ true → same_pair (c i) (c m) ≡ true
  between i m j a b l = pair_between (c i) (c m) (c j) (s.rises i m a (omega arith)) (s.rises m j b l)

  -- ---- a retune in the list is one of the tables

  -- no other edge is of the pair
  retunes_only : (k : ℕ) → Retunes g c o k → (j : ℕ) → j < g → same_pair (c k) (c j) ≡ true → (j ≡ k) ⊎ (j ≡ k + 1)
  retunes_only k r j l p = pick (dec_lt j k) (dec_lt (k + 1) j) (ℕ_discrete j k)
    where
      lower : j < k → Dec (j < k - 1) → same_pair (c (k - 1)) (c k) ≡ true
      lower a (yes b) = let q = pair_back (c k) (c j) p in let n = r.next in
          pair_through (c j) (c (k - 1)) (c k) (between j (k - 1) k b (omega arith) (omega arith) q) q
      lower a (no b) = let e : j ≡ k - 1 = omega arith in ap (λ i. same_pair (c i) (c k)) (sym e) ∙ pair_back (c k) (c j) p

      upper : k + 1 < j → Dec (k + 2 < j) → same_pair (c k) (c (k + 2)) ≡ true
      upper a (yes b) = between k (k + 2) j (omega arith) b l p
      upper a (no b) = let e : j ≡ k + 2 = omega arith in ap (λ i. same_pair (c k) (c i)) (sym e) ∙ p

      pick : Dec (j < k) → Dec (k + 1 < j) → Dec (j ≡ k) → (j ≡ k) ⊎ (j ≡ k + 1)
      pick (yes a) b e = absurd (true≢false (sym (lower a (dec_lt j (k - 1))) ∙ r.first (omega arith)))
      pick (no a) (yes b) e = absurd (true≢false (sym (upper b (dec_lt (k + 2) j)) ∙ r.last (omega arith)))
      pick (no a) (no b) (yes e) = inl e
      pick (no a) (no b) (no e) = inr (omega arith)

  retuned_at : (k : ℕ) → Retunes g c o k → o k ≡ true → Retuned es fs (c k) (c (k + 1))
  retuned_at k r q =
      let l = r.next in
      let n = r.apart ∙ ap not q in
      let a = s.old k (omega arith) q in
      let b = s.new (k + 1) l n in
      record {
        pair = r.pair;
        old = (a.0, lacked fs (c k) a.1);
        new = (b.0, lacked es (c (k + 1)) b.1);
        sole_old = λ x m p d.
            let (j, i, u, e) = s.all_old x m (is_false (among fs x) (λ z. d (among_mem fs x z))) in
            ⊎_elim (λ z. sym e ∙ ap c z) (λ z. absurd (true≢false (sym u ∙ ap o z ∙ n))) (retunes_only k r j i (ap (same_pair (c k)) e ∙ p));
        sole_new = λ x m p d.
            let (j, i, u, e) = s.all_new x m (is_false (among es x) (λ z. d (among_mem es x z))) in
            ⊎_elim (λ z. absurd (true≢false (sym q ∙ ap o (sym z) ∙ u))) (λ z. sym e ∙ ap c z) (retunes_only k r j i (ap (same_pair (c k)) e ∙ p));
      }

  -- ---- a retune of the tables is one in the list

  alone : (m : ℕ) → m + 1 < g → same_pair (c m) (c (m + 1)) ≡ true → ((i : ℕ) → i < g → same_pair (c m) (c i) ≡ true → (i ≡ m) ⊎ (i ≡ m + 1))
      → o (m + 1) ≡ not (o m) → Retunes g c o m
  alone m l p only a = record {
    next = l;
    pair = p;
    first = λ h. is_false _ (λ q. ⊎_elim (λ z. omega arith) (λ z. omega arith) (only (m - 1) (omega arith) (pair_back (c (m - 1)) (c m) q)));
    last = λ h. is_false _ (λ q. ⊎_elim (λ z. omega arith) (λ z. omega arith) (only (m + 2) h q));
    apart = a;
  }

  -- f is the one new edge that c k became, and stands at j
  module _ (k : ℕ) (l : k < g) (q : o k ≡ true) (f : Edge) (r : Retuned es fs (c k) f) (j : ℕ) (i : j < g) (u : o j ≡ false) (e : c j ≡ f) where
    only : (m : ℕ) → m < g → same_pair (c k) (c m) ≡ true → (m ≡ k) ⊎ (m ≡ j)
    only m n p = by_test (o m)
        (λ x. let y = s.old m n x in inl (index_one m k n l (r.sole_old (c m) y.0 p (lacked fs (c m) y.1))))
        (λ x. let y = s.new m n x in inr (index_one m j n i (r.sole_new (c m) y.0 p (lacked es (c m) y.1) ∙ sym e)))

    paired : same_pair (c k) (c j) ≡ true
    paired = ap (same_pair (c k)) e ∙ r.pair

    turned : same_pair (c j) (c k) ≡ true
    turned = pair_back (c k) (c j) paired

    after : k < j → j ≡ k + 1
    after h = elim (dec_lt (k + 1) j) [
      | yes n ↦ absurd (⊎_elim (λ z. omega arith) (λ z. omega arith) (only (k + 1) (omega arith) (between k (k + 1) j (omega arith) n i paired)))
      | no n ↦ omega arith
    ]

    ahead : j < k → k ≡ j + 1
    ahead h = elim (dec_lt (j + 1) k) [
      | yes n ↦ absurd (⊎_elim (λ z. omega arith) (λ z. omega arith)
          (only (j + 1) (omega arith) (pair_through (c j) (c k) (c (j + 1)) turned (between j (j + 1) k (omega arith) n l turned))))
      | no n ↦ omega arith
    ]

    place : Dec (k < j) → Dec (j < k) → Retunes g c o k ⊎ ((m : ℕ) × (k ≡ m + 1) × Retunes g c o m)
    place (yes h) n =
        let z = after h in
        inl (alone k (omega arith) (ap (λ x. same_pair (c k) (c x)) (sym z) ∙ paired) (λ x y p. ⊎_elim inl (λ w. inr (w ∙ z)) (only x y p)) (ap o (sym z) ∙ u ∙ ap not (sym q)))
    place (no h) (yes n) =
        let z = ahead n in
        inr (
          j,
          z,
          alone j (omega arith) (ap (λ x. same_pair (c j) (c x)) (sym z) ∙ turned)
              (λ x y p. ⊎_elim (λ w. inr (w ∙ z)) inl (only x y (pair_through (c j) (c k) (c x) turned p))) (ap o (sym z) ∙ q ∙ ap not (sym u)),
        )
    place (no h) (no n) = absurd (true≢false (sym q ∙ ap o (let w : k ≡ j = omega arith in w) ∙ u))

  retune_found : (k : ℕ) → k < g → o k ≡ true → counterpart es fs (c k) ≢ 0 → Retunes g c o k ⊎ ((m : ℕ) × (k ≡ m + 1) × Retunes g c o m)
  retune_found k l q d =
      let a = s.old k l q in
      let (f, r, z) = counterpart_retuned es fs (c k) a.0 (lacked fs (c k) a.1) d in
      let (j, i, u, e) = s.all_new f r.new.0 (is_false (among es f) (λ x. r.new.1 (among_mem es f x))) in
      place k l q f r j i u e (dec_lt k j) (dec_lt j k)

-- ---- each retune as one change

pub record Told (g : ℕ) (t h w v : ℕ → ℕ) (c : ℕ → Edge) (o : ℕ → Bool) : Type 0 where
  pub old : (k : ℕ) → k < g → o k ≡ true → (c k ≡ edge (t k) (h k) (w k)) × (v k ≡ 0)
  pub new : (k : ℕ) → k < g → o k ≡ false → (c k ≡ edge (t k) (h k) (v k)) × (w k ≡ 0)

pub record Made (g : ℕ) (o r : ℕ → Bool) (w v x y : ℕ → ℕ) : Type 0 where
  pub first_old : (k : ℕ) → k < g → r k ≡ true → o k ≡ true → (x k ≡ w k) × (y k ≡ v (k + 1))
  pub first_new : (k : ℕ) → k < g → r k ≡ true → o k ≡ false → (x k ≡ w (k + 1)) × (y k ≡ v k)
  pub second : (k : ℕ) → k < g → r k ≡ true → (x (k + 1) ≡ 0) × (y (k + 1) ≡ 0)
  pub other : (k : ℕ) → k < g → r k ≡ false → (0 < k → r (k - 1) ≡ false) → (x k ≡ w k) × (y k ≡ v k)

pub told_flip : {g : ℕ} {t h w v : ℕ → ℕ} {c : ℕ → Edge} {o : ℕ → Bool} → Told g t h w v c o → Told g t h v w c (λ k. not (o k))
told_flip a = record { old = λ k l q. a.new k l (not-true _ q); new = λ k l q. a.old k l (not-false _ q) }

pub made_flip : {g : ℕ} {o r : ℕ → Bool} {w v x y : ℕ → ℕ} → Made g o r w v x y → Made g (λ k. not (o k)) r v w y x
made_flip m = record {
  first_old = λ k l p q. let z = m.first_new k l p (not-true _ q) in (z.1, z.0);
  first_new = λ k l p q. let z = m.first_old k l p (not-false _ q) in (z.1, z.0);
  second = λ k l p. let z = m.second k l p in (z.1, z.0);
  other = λ k l p q. let z = m.other k l p q in (z.1, z.0);
}

module _ {es fs : List Edge} {g : ℕ} {t h w v x y : ℕ → ℕ} {c : ℕ → Edge} {o r : ℕ → Bool} (es-plain : Plain es) (fs-plain : Plain fs)
    (s : Split es fs g c o) (a : Told g t h w v c o) (m : Made g o r w v x y) (is : (k : ℕ) → r k ≡ true → Retunes g c o k) (has : (k : ℕ) → Retunes g c o k → r k ≡ true) where
  abbrev made : ℕ → Edge
  made k = edge (t k) (h k) (x k)

  -- a change is the first of a retune, the second, or neither
  kind : (k : ℕ) → (r k ≡ true) ⊎ (((i : ℕ) × (k ≡ i + 1) × (r i ≡ true)) ⊎ ((r k ≡ false) × (0 < k → r (k - 1) ≡ false)))
  kind k = by_test (r k) inl (λ q. inr (by_test (ltb 0 k && r (k - 1))
      (λ p. let z = both (ltb 0 k) (r (k - 1)) p in let l = ltb-true 0 k z.0 in inl (k - 1, omega arith, z.1))
      (λ p. inr (q, λ l. rw (lt-ltb 0 k l) at p))))

  -- the first of a retune has the edge of es, with the weight of that of fs: its own edge where that is of es, and else the next one
  first_old_edge : (k : ℕ) → k < g → r k ≡ true → o k ≡ true → (made k ≡ c k) × (counterpart es fs (c k) ≡ y k)
  first_old_edge k l q p =
      let u = is k q in
      let z = m.first_old k l q p in (
        ap (edge (t k) (h k)) z.0 ∙ sym (a.old k l p).0,
        retuned_weight es fs es-plain fs-plain (c k) (c (k + 1)) (retuned_at s k u p) ∙ ap (λ (e : Edge). e.weight) (a.new (k + 1) u.next (u.apart ∙ ap not p)).0 ∙ sym z.1,
      )

  first_new_edge : (k : ℕ) → k < g → r k ≡ true → o k ≡ false → (made k ≡ c (k + 1)) × (counterpart es fs (c (k + 1)) ≡ y k)
  first_new_edge k l q p =
      let u = is k q in
      let z = m.first_new k l q p in
      let b = (a.new k l p).0 in
      let d = (a.old (k + 1) u.next (u.apart ∙ ap not p)).0 in
      let (e, f) = pair_ends (c k) (c (k + 1)) u.pair in
      let tails = ap (λ (e : Edge). e.tail) (sym b) ∙ e ∙ ap (λ (e : Edge). e.tail) d in
      let heads = ap (λ (e : Edge). e.head) (sym b) ∙ f ∙ ap (λ (e : Edge). e.head) d in (
        (λ i. edge (tails i) (heads i) (z.0 i)) ∙ sym d,
        retuned_weight es fs es-plain fs-plain (c (k + 1)) (c k) (retuned_flip (retuned_at (split_flip s) k (retunes_flip u) (ap not p))) ∙ ap (λ (e : Edge). e.weight) b ∙ sym z.1,
      )

  -- in the place of an edge that is not of a retune stands nothing
  other_edge : (k : ℕ) → k < g → o k ≡ true → r k ≡ false → (0 < k → r (k - 1) ≡ false) → counterpart es fs (c k) ≡ 0
  other_edge k l q p n = by_test (eqb (counterpart es fs (c k)) 0) (λ z. eqb-true _ _ z)
      (λ z. absurd (⊎_elim (λ u. true≢false (sym (has k u) ∙ p))
      (λ (i, e, u). true≢false (sym (has i u) ∙ ap r (let d : i ≡ k - 1 = omega arith in d) ∙ n (omega arith))) (retune_found s k l q (eqb-false _ _ z))))

  -- a change that has a weight of es is of an edge that fs lacks
  made_from : (k : ℕ) → k < g → 0 < x k → (j : ℕ) × (j < g) × (o j ≡ true) × (made k ≡ c j) × (counterpart es fs (c j) ≡ y k)
  made_from k l b = ⊎_elim
      (λ q. by_test (o k) (λ p. let z = first_old_edge k l q p in (k, l, p, z.0, z.1))
      (λ p. let u = is k q in let z = first_new_edge k l q p in (k + 1, u.next, u.apart ∙ ap not p, z.0, z.1)))
      (⊎_elim (λ (i, e, q). absurd (let z = (m.second i (omega arith) q).0 in let d = ap x e in omega arith))
      (λ (p, q). let z = m.other k l p q in by_test (o k)
      (λ d. let e = a.old k l d in (k, l, d, ap (edge (t k) (h k)) z.0 ∙ sym e.0, other_edge k l d p q ∙ sym (z.1 ∙ e.1)))
      (λ d. absurd (let e = (a.new k l d).1 in let f = z.0 in omega arith)))) (kind k)

  -- and each is there
  made_has : (j : ℕ) → j < g → o j ≡ true → (k : ℕ) × (k < g) × (made k ≡ c j)
  made_has j l q = ⊎_elim (λ p. (j, l, (first_old_edge j l p q).0))
      (⊎_elim
      (λ (i, e, p). (i, omega arith, (first_new_edge i (omega arith) p (not-true _ (sym (is i p).apart ∙ ap o (sym e) ∙ q))).0 ∙ ap c (sym e)))
      (λ (p, n). (j, l, ap (edge (t j) (h j)) (m.other j l p n).0 ∙ sym (a.old j l q).0))) (kind j)

  pub made_lists : ((e : Edge) → Memᴰ e es → 0 < e.weight) → Lists es fs g made y
  made_lists weighs = record {
    lacks = record {
      lacked = λ k l b. let (j, n, q, e, _) = made_from k l b in rw e (s.old j n q);
      all = λ e i q. let (j, l, p, z) = s.all_old e i q in let (k, n, d) = made_has j l p in (k, n, d ∙ z);
      weighs = weighs;
    };
    other = λ k l b. let (j, n, q, e, z) = made_from k l b in ap (counterpart es fs) e ∙ z;
  }
