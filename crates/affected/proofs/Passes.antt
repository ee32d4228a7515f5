-- Passes over edges from last to first: what one does by parts, and how far a pass carries marks in a table, whose tails ascend. Assumes nothing.
--
--   TailsAscend es == the tails of es never fall
--   above u xs     == the edges of xs with a tail above u
--   More ms ls     == what is marked in ms is in ls
use Rattle.property.proofs.Basics.{◌≡◌, refl, sym, ap, ◌∙◌, ◌⊎◌, inl, inr, ⊎_elim, ◌≢◌, Bool, true, false, cond, List, [], ◌∷◌, ◌++◌, Memᴰ, Memᴰ-head, Memᴰ-tail, Memᴰ-cases_cons, Memᴰ-not_nil, ℕ, zero, suc, ◌+◌, ◌-◌, ◌≤◌, ◌<◌, zero-add, suc-add, add-zero, add-one, arith, length, replicate, length-replicate, get_or-set_same, get_or-set_other, ltb, ltb-true, ltb-false, lt-ltb, le-ltb, eqb, eqb-true, eqb-false, ne_eqb}
use Rattle.property.specs.Property.{Property}
use Rattle.property.proofs.Tests.{by_test}
use Rattle.graph.specs.Edge.{Edge, keep_if, keep, leaving}
use Rattle.graph.specs.Table.{table_order}
use Rattle.graph.specs.Index.{Own, in_order}
use Rattle.graph.proofs.Tests.{both, and_true, or_right}
use Rattle.graph.proofs.Edges.{keep_in, in_keep}
use Rattle.graph.proofs.Order.{Sound, rules_accept, sound_fit, precedes_tail, within}
use Rattle.graph.proofs.Sorted.{Ahead}
use Rattle.affected.specs.Net.{removed}
use Rattle.affected.specs.Affected.{Held, Affected, Closed, at_removed, onward, held, marked, touches, mark, sweep, hunt, affected}
use Rattle.affected.specs.Hunt.{TableOrder, Descends, FirstPass, Chained, chain_removed, chain_onward, PassBound}
use Rattle.affected.proofs.Closure.{set_there, raise_keeps, raise_only, of_held}
use Rattle.affected.proofs.Hunt.{sweep_length, sweep_named, hunt_length, hunt_next, none_named, same_marks, affected_length, affected_named, all_marked}

-- ---- a table's tails ascend

abbrev TailsAscend : List Edge → Type 0
TailsAscend [] = Unit {0}
TailsAscend (x ∷ xs) = ((e : Edge) → Memᴰ e xs → x.tail ≤ e.tail) × TailsAscend xs

sound_ascends : (n : ℕ) (es : List Edge) → Sound n es → TailsAscend es
sound_ascends n [] h = tt
sound_ascends n (x ∷ es) h = let r = sound_ascends n es h.2 in (after es h.1 r, r)
  where
    after : (xs : List Edge) → Ahead table_order x xs → TailsAscend xs → (e : Edge) → Memᴰ e xs → x.tail ≤ e.tail
    after [] a r e m = absurd (Memᴰ-not_nil m)
    after (y ∷ xs) a r e m = let z = precedes_tail x y a in ⊎_elim (λ q. rw q z) (λ k. let w = r.0 e k in omega arith) (Memᴰ-cases_cons m)

keep_ascends : (f : Edge → Bool) (xs : List Edge) → TailsAscend xs → TailsAscend (keep f xs)
unfolding keep keep_if
keep_ascends f [] r = tt
keep_ascends f (x ∷ xs) r =
    by_test (f x) (λ q. rw q ((λ e m. r.0 e (keep_in f xs e m).0), keep_ascends f xs r.1)) (λ q. rw q (keep_ascends f xs r.1))

abbrev above : ℕ → List Edge → List Edge
above u xs = keep (λ e. ltb u e.tail) xs

above_above : (u v : ℕ) → v ≤ u → (xs : List Edge) → above u (above v xs) ≡ above u xs
unfolding keep keep_if
above_above u v h [] = refl
above_above u v h (x ∷ xs) = by_test (ltb u x.tail)
    (λ q. let p = lt-ltb v x.tail (let z = ltb-true u x.tail q in omega arith) in rw (p, q) (ap (λ l. x ∷ l) (above_above u v h xs)))
    (λ q. by_test (ltb v x.tail) (λ p. rw (p, q) (above_above u v h xs)) (λ p. rw (p, q) (above_above u v h xs)))

-- ---- what an edge marks, from more marks

abbrev More : List Bool → List Bool → Type 0
More ms ls = (t : ℕ) → marked ms t ≡ true → marked ls t ≡ true

module _ (P : Property) (es fs : List Edge) (s : ℕ) (ws : List ℕ) where
  mark_keeps : (ms : List Bool) (e : Edge) → e.head < length ms → More ms (mark P es fs s ws ms e)
  unfolding mark
  mark_keeps ms e h = raise_keeps ms e.head (touches P es fs s ws ms e) h

  mark_only : (ms : List Bool) (e : Edge) (t : ℕ) → marked (mark P es fs s ws ms e) t ≡ true
      → (marked ms t ≡ true) ⊎ ((touches P es fs s ws ms e ≡ true) × (t ≡ e.head))
  unfolding mark
  mark_only ms e = raise_only ms e.head (touches P es fs s ws ms e)

  mark_touched : (ms : List Bool) (e : Edge) → e.head < length ms → touches P es fs s ws ms e ≡ true → marked (mark P es fs s ws ms e) e.head ≡ true
  unfolding mark
  mark_touched ms e h q = rw q (get_or-set_same ms e.head true false h)

  -- an edge that touches still does where its tail keeps its mark
  pub touches_as : (ms ls : List Bool) (e : Edge) → (marked ms e.tail ≡ true → marked ls e.tail ≡ true) → touches P es fs s ws ms e ≡ true
      → touches P es fs s ws ls e ≡ true
  touches_as ms ls e f q =
      let z = both (held P s ws e) _ q in
      and_true z.0 (by_test (removed P es fs e) (λ r. rw r) (λ r. rw r (f (rw r at z.1))))

  mark_more : (ms ls : List Bool) (e : Edge) → e.head < length ls → More ms ls → More (mark P es fs s ws ms e) (mark P es fs s ws ls e)
  mark_more ms ls e h f t q =
      ⊎_elim (λ k. mark_keeps ls e h t (f t k)) (λ k. rw k.1 (mark_touched ls e h (touches_as ms ls e (f e.tail) k.0))) (mark_only ms e t q)

  fits : (xs : List Edge) (ms : List Bool) (e : Edge) → e.head < length ms → e.head < length (sweep P es fs s ws xs ms)
  fits xs ms e l = omega (arith, sweep_length P es fs s ws xs ms)

  sweep_keeps : (xs : List Edge) (ms : List Bool) → ((e : Edge) → Memᴰ e xs → e.head < length ms) → More ms (sweep P es fs s ws xs ms)
  unfolding sweep
  sweep_keeps [] ms heads t q = q
  sweep_keeps (x ∷ xs) ms heads t q =
      mark_keeps (sweep P es fs s ws xs ms) x (fits xs ms x (heads x (Memᴰ-head refl))) t (sweep_keeps xs ms (λ e m. heads e (Memᴰ-tail m)) t q)

  -- an edge that touches before a pass still does when it is taken
  pub sweep_taken : (xs : List Edge) (ms : List Bool) → ((e : Edge) → Memᴰ e xs → e.head < length ms) → (e : Edge) → Memᴰ e xs
      → touches P es fs s ws ms e ≡ true → marked (sweep P es fs s ws xs ms) e.head ≡ true
  unfolding sweep
  sweep_taken [] ms heads e m q = absurd (Memᴰ-not_nil m)
  sweep_taken (x ∷ xs) ms heads e m q =
      let rest = sweep P es fs s ws xs ms in
      let inner : (i : Edge) → Memᴰ i xs → i.head < length ms = λ i j. heads i (Memᴰ-tail j) in
      let l = fits xs ms x (heads x (Memᴰ-head refl)) in
      ⊎_elim (λ p. rw p (mark_touched rest x l (touches_as ms rest x (sweep_keeps xs ms inner x.tail) (rw p at q))))
      (λ i. mark_keeps rest x l e.head (sweep_taken xs ms inner e i q)) (Memᴰ-cases_cons m)

  -- ---- a pass by parts

  pub sweep_append : (xs ys : List Edge) (ms : List Bool) → sweep P es fs s ws (xs ++ ys) ms ≡ sweep P es fs s ws xs (sweep P es fs s ws ys ms)
  unfolding sweep
  sweep_append [] ys ms = refl
  sweep_append (x ∷ xs) ys ms = ap (λ ls. mark P es fs s ws ls x) (sweep_append xs ys ms)

  mark_elsewhere : (t : ℕ) (x : Edge) → x.head ≢ t → (ls : List Bool) → marked (mark P es fs s ws ls x) t ≡ marked ls t
  unfolding mark
  mark_elsewhere t x d ls = by_test (touches P es fs s ws ls x) (λ q. rw q (get_or-set_other ls x.head t true false (λ p. d (sym p)))) (λ q. rw q)

  -- edges with other heads do not mark t
  pub sweep_elsewhere : (t : ℕ) (xs : List Edge) → ((e : Edge) → Memᴰ e xs → e.head ≢ t) → (ms : List Bool)
      → marked (sweep P es fs s ws xs ms) t ≡ marked ms t
  unfolding sweep
  sweep_elsewhere t [] d ms = refl
  sweep_elsewhere t (x ∷ xs) d ms = mark_elsewhere t x (d x (Memᴰ-head refl)) (sweep P es fs s ws xs ms) ∙ sweep_elsewhere t xs (λ e m. d e (Memᴰ-tail m)) ms

  -- edges whose heads are marked wherever they touch change nothing
  pub sweep_still : (xs : List Edge) (ms : List Bool) → Closed P es fs s ws xs ms → sweep P es fs s ws xs ms ≡ ms
  unfolding sweep mark
  sweep_still [] ms c = refl
  sweep_still (x ∷ xs) ms c = ap (λ ls. mark P es fs s ws ls x) (sweep_still xs ms (λ e m. c e (Memᴰ-tail m))) ∙ by_test (touches P es fs s ws ms x)
      (λ q. rw q (set_there ms x.head (c x (Memᴰ-head refl) q))) (λ q. rw q)

-- ---- how far a pass carries marks

module _ (P : Property) (es fs : List Edge) (s : ℕ) (ws : List ℕ) where
  -- some of the edges mark no more than all
  sweep_some : (f : Edge → Bool) (xs : List Edge) (ms : List Bool) → ((e : Edge) → Memᴰ e xs → e.head < length ms)
      → More (sweep P es fs s ws (keep f xs) ms) (sweep P es fs s ws xs ms)
  unfolding sweep keep keep_if
  sweep_some f [] ms heads = λ t q. q
  sweep_some f (x ∷ xs) ms heads =
      let l = fits P es fs s ws xs ms x (heads x (Memᴰ-head refl)) in
      let r = sweep_some f xs ms (λ e m. heads e (Memᴰ-tail m)) in
      by_test (f x) (λ q. rw q (mark_more P es fs s ws (sweep P es fs s ws (keep f xs) ms) (sweep P es fs s ws xs ms) x l r))
      (λ q. rw q (λ t k. mark_keeps P es fs s ws (sweep P es fs s ws xs ms) x l t (r t k)))

  -- A held edge that is removed, or whose tail is marked once the edges of higher tails have been taken, leaves its head marked.
  sweep_held : (xs : List Edge) → TailsAscend xs → (ms : List Bool) → ((e : Edge) → Memᴰ e xs → e.head < length ms) → (e : Edge) → Memᴰ e xs
      → Held P s ws e → (removed P es fs e ≡ true) ⊎ (marked (sweep P es fs s ws (above e.tail xs) ms) e.tail ≡ true) → marked (sweep P es fs s ws xs ms) e.head ≡ true
  unfolding sweep keep keep_if
  sweep_held [] r ms heads e m k c = absurd (Memᴰ-not_nil m)
  sweep_held (x ∷ xs) r ms heads e m k c =
      ⊎_elim first (λ i. mark_keeps P es fs s ws rest x l e.head (sweep_held xs r.1 ms inner e i k (below (r.0 e i)))) (Memᴰ-cases_cons m)
    where
      rest : List Bool
      rest = sweep P es fs s ws xs ms

      inner : (i : Edge) → Memᴰ i xs → i.head < length ms
      inner i j = heads i (Memᴰ-tail j)

      l : x.head < length rest
      l = fits P es fs s ws xs ms x (heads x (Memᴰ-head refl))

      below : x.tail ≤ e.tail → (removed P es fs e ≡ true) ⊎ (marked (sweep P es fs s ws (above e.tail xs) ms) e.tail ≡ true)
      below o = rw (le-ltb e.tail x.tail o) at c

      first : e ≡ x → marked (mark P es fs s ws rest x) e.head ≡ true
      first q = rw q (mark_touched P es fs s ws rest x l (rw q at (and_true (of_held P s ws e k) (⊎_elim (λ y. rw y)
          (λ y. or_right (removed P es fs e) (sweep_some (λ i. ltb e.tail i.tail) xs ms inner e.tail y)) (below (rw q (omega arith)))))))

-- ---- passes over a table

module _ (P : Property) (es fs : List Edge) (s : ℕ) (ws : List ℕ) (n : ℕ) (sound : Sound n es) where
  heads : (e : Edge) → Memᴰ e es → e.head < n
  heads = (within n es sound).heads

  abbrev none : List Bool
  none = replicate n false

  abbrev found : ℕ → List Bool
  found k = hunt P es fs s ws es k none

  long : (k : ℕ) → length (found k) ≡ n
  long k = hunt_length P es fs s ws es n k none (length-replicate n false)

  inside : (k : ℕ) (e : Edge) → Memᴰ e es → e.head < length (found k)
  inside k e m = omega (arith, long k, heads e m)

  next : (k : ℕ) → found (suc k) ≡ sweep P es fs s ws es (found k)
  next k = hunt_next P es fs s ws n es heads k none (length-replicate n false)

  -- A chain that leads up k times has its end marked in the pass after k passes, once the edges of higher tails have been taken.
  timely : {t k : ℕ} → Chained P es fs s ws t k → marked (sweep P es fs s ws (above t es) (found k)) t ≡ true
  unfolding keep keep_if
  timely c = go c
    where
      taken : (k : ℕ) (e : Edge) → Memᴰ e es → Held P s ws e
          → (removed P es fs e ≡ true) ⊎ (marked (sweep P es fs s ws (above e.tail es) (found k)) e.tail ≡ true)
          → marked (sweep P es fs s ws (above e.head es) (found (k + cond (ltb e.tail e.head) 1 0))) e.head ≡ true
      taken k e m h c = by_test (ltb e.tail e.head)
          (λ q. rw (q, add-one k, next k) (sweep_keeps P es fs s ws (above e.head es) (sweep P es fs s ws es (found k)) (λ x i. fits P es fs s ws es (found k) x (inside k x (keep_in _ es x i).0))
          e.head (sweep_held P es fs s ws es (sound_ascends n es sound) (found k) (inside k) e m h c)))
          (λ q. let d : e.head < e.tail = omega (arith, ltb-false e.tail e.head q, (sound_fit n es sound e m).no_loop) in
          rw (q, add-zero k) (sweep_held P es fs s ws (above e.head es) (keep_ascends _ es (sound_ascends n es sound)) (found k)
          (λ x i. inside k x (keep_in _ es x i).0) e (in_keep (λ x. ltb e.head x.tail) m (lt-ltb _ _ d)) h
          (rw (above_above e.tail e.head (omega arith) es) c)))

      go : {t k : ℕ} → Chained P es fs s ws t k → marked (sweep P es fs s ws (above t es) (found k)) t ≡ true
      go (chain_removed {e = e} m r h) = rw zero-add at (taken 0 e m h (inl r))
      go (chain_onward {e = e} {k = k} c m h) = taken k e m h (inr (go c))

  -- one pass more finds the end
  found_next : {t k : ℕ} → Chained P es fs s ws t k → marked (found (suc k)) t ≡ true
  found_next {t} {k} c = rw (next k) (sweep_some P es fs s ws (λ e. ltb t e.tail) es (found k) (inside k) t (timely c))

  -- what was found stays
  later : (j k : ℕ) → More (found k) (found (j + k))
  later zero k = rw (zero-add k) (λ t q. q)
  later (suc j) k = rw (suc-add j k, next (j + k)) (λ t q. sweep_keeps P es fs s ws es (found (j + k)) (inside (j + k)) t (later j k t q))

  -- where held edges lead down no chain leads up
  descent : Descends P s ws es → {t : ℕ} → Affected P es fs s ws t → Chained P es fs s ws t 0
  descent d (at_removed {e = e} m r h) =
      rw (le-ltb e.tail e.head (let z = d e m h in omega arith)) at (let c : Chained P es fs s ws e.head (cond (ltb e.tail e.head) 1 0) = chain_removed m r h in c)
  descent d (onward {e = e} a m r h) =
      rw (le-ltb e.tail e.head (let z = d e m h in omega arith)) at (let c : Chained P es fs s ws e.head (0 + cond (ltb e.tail e.head) 1 0) = chain_onward (descent d a) m h in c)

  first : Descends P s ws es → sweep P es fs s ws es none ≡ affected P es fs s ws n
  unfolding hunt
  first d = same_marks (sweep P es fs s ws es none) (affected P es fs s ws n) (sweep_length P es fs s ws es none ∙ length-replicate n false ∙ sym (affected_length P es fs s ws n))
      (λ t. (
        λ q. all_marked P es fs s ws n heads (sweep_named P es fs s ws es (λ e m. m) none (none_named P es fs s ws n) t q),
        λ q. rw (next 0) at (found_next (descent d (affected_named P es fs s ws n t q))),
      ))

pub pass_bound : PassBound
pass_bound P es fs s ws n r k t u c l =
    let z = later P es fs s ws n (rules_accept n es r) (k - suc u) (suc u) t (found_next P es fs s ws n (rules_accept n es r) c) in
    let e : k - suc u + suc u ≡ k = omega arith in
    rw e at z

pub first_pass : FirstPass
first_pass P es fs s ws n r = let f = first P es fs s ws n (rules_accept n es r) in (f, λ d. f (λ e m h. d e m))

-- ---- an index has a table's edges in the table's order

leaving_above : (u v : ℕ) → u < v → (xs : List Edge) → leaving v (above u xs) ≡ leaving v xs
unfolding keep keep_if
leaving_above u v h [] = refl
leaving_above u v h (x ∷ xs) = by_test (eqb x.tail v)
    (λ q. let p = lt-ltb u x.tail (let z = eqb-true x.tail v q in omega arith) in rw (p, q) (ap (λ l. x ∷ l) (leaving_above u v h xs)))
    (λ q. by_test (ltb u x.tail) (λ p. rw (p, q) (leaving_above u v h xs)) (λ p. rw (p, q) (leaving_above u v h xs)))

above_all : (u : ℕ) (xs : List Edge) → ((e : Edge) → Memᴰ e xs → u < e.tail) → (leaving u xs ≡ []) × (above u xs ≡ xs)
unfolding keep keep_if
above_all u [] h = (refl, refl)
above_all u (x ∷ xs) h =
    let z = above_all u xs (λ e m. h e (Memᴰ-tail m)) in
    let l = h x (Memᴰ-head refl) in
    rw (ne_eqb x.tail u (λ q. omega arith), lt-ltb u x.tail l) (z.0, ap (λ l. x ∷ l) z.1)

-- a list whose tails ascend from u on: those of tail u, and then those above
ascending_parts : (u : ℕ) (xs : List Edge) → TailsAscend xs → ((e : Edge) → Memᴰ e xs → u ≤ e.tail) → leaving u xs ++ above u xs ≡ xs
unfolding keep keep_if
ascending_parts u [] r h = refl
ascending_parts u (x ∷ xs) r h = by_test (eqb x.tail u)
    (λ q. rw (q, le-ltb u x.tail (let z = eqb-true x.tail u q in omega arith)) (ap (λ l. x ∷ l) (ascending_parts u xs r.1 (λ e m. h e (Memᴰ-tail m)))))
    (λ q. let l : u < x.tail = omega (arith, eqb-false x.tail u q, h x (Memᴰ-head refl)) in
    let z = above_all u xs (λ e m. omega (arith, r.0 e m)) in
    rw (q, lt-ltb u x.tail l) (rw z.0 (ap (λ l. x ∷ l) z.1)))

order_all : (n : ℕ) (is : List ℕ) (es : List Edge) → Own n is es → (k u : ℕ) → u + k ≡ n → (xs : List Edge) → TailsAscend xs
    → ((v : ℕ) → u ≤ v → leaving v es ≡ leaving v xs) → ((e : Edge) → Memᴰ e xs → (u ≤ e.tail) × (e.tail < n)) → in_order is u k ≡ xs
unfolding in_order
order_all n is es o zero u h [] r f w = refl
order_all n is es o zero u h (x ∷ xs) r f w = absurd (let z = w x (Memᴰ-head refl) in let a = z.0 in let b = z.1 in omega arith)
order_all n is es o (suc k) u h xs r f w =
    let i = order_all n is es o k (suc u) (omega arith) (above u xs) (keep_ascends _ xs r) (λ v l. f v (omega arith) ∙ sym (leaving_above u v l xs))
    (λ e m. let z = keep_in (λ e. ltb u e.tail) xs e m in (ltb-true u e.tail z.1, (w e z.0).1)) in
    rw (o u (omega arith), f u (omega arith), i) (ascending_parts u xs r (λ e m. (w e m).0))

pub table_order_lem : TableOrder
table_order_lem n is es a o =
    let z = rules_accept n es a in
    order_all n is es o n 0 (zero-add n) es (sound_ascends n es z) (λ v l. refl) (λ e m. (omega arith, (within n es z).tails e m))
