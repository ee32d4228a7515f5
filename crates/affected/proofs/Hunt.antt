-- The hunt's passes come to rest, and where they rest the marks are exactly the closure, whatever the order of edges. Assumes nothing.
--
--   StillOrMore xs ms ls == ls, the marks after edges xs were gone over from ms, are those before and closed, or they are more
use Rattle.property.proofs.Basics.{◌≡◌, refl, sym, ap, ◌∙◌, ◌⊎◌, inl, inr, ⊎_elim, ◌≢◌, ◌↔◌, Bool, true, false, not, cond, true≢false, false≢true, List, [], ◌∷◌, map, Memᴰ, Memᴰ-head, Memᴰ-tail, Memᴰ-cases_cons, Memᴰ-not_nil, ℕ, zero, suc, ◌+◌, ◌≤◌, ◌<◌, arith, length, set, replicate, length-set, length-replicate, ext_get_or, eqb, eqb-true, eqb-false}
use mathlib.Core.List.Memᴰ
use Rattle.property.specs.Property.{Property}
use Rattle.property.specs.Laws.{Laws}
use Rattle.property.proofs.Tests.{is_false, by_test}
use Rattle.frontier.specs.Waiting.{count_of}
use Rattle.frontier.proofs.Counts.{count_le}
use Rattle.frontier.proofs.Laws.{count_insert}
use Rattle.graph.specs.Edge.{Edge, reverse, among}
use Rattle.graph.proofs.Tests.{same_test, or_right}
use Rattle.graph.proofs.Lists.{replicate_at}
use Rattle.graph.proofs.Edges.{among_mem}
use Rattle.graph.proofs.Order.{Within}
use Rattle.run.specs.Run.{word, tight}
use Rattle.affected.specs.Net.{removed}
use Rattle.affected.specs.Affected.{Held, Affected, Closed, Named, at_removed, onward, marked, touches, mark, sweep, hunt, affected, AffectedExact, Fewer, FewerAffected}
use Rattle.affected.specs.Hunt.{AnyOrder}
use Rattle.affected.proofs.Net.{Weighs, rules_weigh, weighs_reverse, kept_stays}
use Rattle.affected.proofs.Closure.{set_there, mark_named, closed_marked, landmark_unaffected}

pub none_named : (P : Property) (es fs : List Edge) (s : ℕ) (ws : List ℕ) (n : ℕ) → Named P es fs s ws (replicate n false)
none_named P es fs s ws n t q = absurd (false≢true (sym (replicate_at n t false) ∙ q))

module _ (P : Property) (es fs : List Edge) (s : ℕ) (ws : List ℕ) where
  -- ---- passes keep the length, and mark affected vertices alone

  mark_length : (ms : List Bool) (e : Edge) → length (mark P es fs s ws ms e) ≡ length ms
  unfolding mark
  mark_length ms e = by_test (touches P es fs s ws ms e) (λ q. rw q (length-set ms e.head true)) (λ q. rw q)

  pub sweep_length : (xs : List Edge) (ms : List Bool) → length (sweep P es fs s ws xs ms) ≡ length ms
  unfolding sweep
  sweep_length [] ms = refl
  sweep_length (x ∷ xs) ms = mark_length (sweep P es fs s ws xs ms) x ∙ sweep_length xs ms

  pub sweep_named : (xs : List Edge) → ((e : Edge) → Memᴰ e xs → Memᴰ e es) → (ms : List Bool)
      → Named P es fs s ws ms → Named P es fs s ws (sweep P es fs s ws xs ms)
  unfolding sweep
  sweep_named [] sub ms g = g
  sweep_named (x ∷ xs) sub ms g =
      mark_named P es fs s ws (sweep P es fs s ws xs ms) x (sweep_named xs (λ e m. sub e (Memᴰ-tail m)) ms g) (sub x (Memᴰ-head refl))

  -- what each pass keeps, the hunt keeps
  hunt_keeps : (Q : List Bool → Type 0) (xs : List Edge) → ((ls : List Bool) → Q ls → Q (sweep P es fs s ws xs ls))
      → (k : ℕ) (ms : List Bool) → Q ms → Q (hunt P es fs s ws xs k ms)
  unfolding hunt
  hunt_keeps Q xs f zero ms q = q
  hunt_keeps Q xs f (suc k) ms q =
      by_test (eqb (count_of (sweep P es fs s ws xs ms)) (count_of ms)) (λ h. rw h q) (λ h. rw h (hunt_keeps Q xs f k (sweep P es fs s ws xs ms) (f ms q)))

  pub hunt_length : (xs : List Edge) (n k : ℕ) (ms : List Bool) → length ms ≡ n → length (hunt P es fs s ws xs k ms) ≡ n
  hunt_length xs n = hunt_keeps (λ ls. length ls ≡ n) xs (λ ls h. sweep_length xs ls ∙ h)

  -- ---- a pass leaves the marks as they are, or adds one

  abbrev StillOrMore : List Edge → List Bool → List Bool → Type 0
  StillOrMore xs ms ls = ((ls ≡ ms) × Closed P es fs s ws xs ms) ⊎ (count_of ms < count_of ls)

  mark_swept : (ms : List Bool) (x : Edge) → x.head < length ms → StillOrMore (x ∷ []) ms (mark P es fs s ws ms x)
  unfolding mark
  mark_swept ms x l = pick (touches P es fs s ws ms x) refl (marked ms x.head) refl
    where
      only : (touches P es fs s ws ms x ≡ true → marked ms x.head ≡ true) → Closed P es fs s ws (x ∷ []) ms
      only c e m = rw (Memᴰ.eq_of_singleton m) c

      pick : (b : Bool) → touches P es fs s ws ms x ≡ b → (a : Bool) → marked ms x.head ≡ a → StillOrMore (x ∷ []) ms (cond b (set ms x.head true) ms)
      pick false h a q = inl (refl, only (λ k. absurd (true≢false (sym k ∙ h))))
      pick true h true q = inl (set_there ms x.head q, only (λ k. q))
      pick true h false q = inr (let g = count_insert ms x.head l q in omega arith)

  module _ (n : ℕ) where
    sweep_swept : (xs : List Edge) → ((e : Edge) → Memᴰ e xs → e.head < n)
        → (ms : List Bool) → length ms ≡ n → StillOrMore xs ms (sweep P es fs s ws xs ms)
    unfolding sweep
    sweep_swept [] heads ms h = inl (refl, λ e m. absurd (Memᴰ-not_nil m))
    sweep_swept (x ∷ xs) heads ms h = pick (sweep_swept xs (λ e m. heads e (Memᴰ-tail m)) ms h)
      where
        rest : List Bool
        rest = sweep P es fs s ws xs ms

        last : StillOrMore (x ∷ []) rest (mark P es fs s ws rest x)
        last = mark_swept rest x (omega (arith, sweep_length xs ms, heads x (Memᴰ-head refl)))

        pick : StillOrMore xs ms rest → StillOrMore (x ∷ xs) ms (mark P es fs s ws rest x)
        pick (inl (q, d)) = ⊎_elim (λ r. inl (r.0 ∙ q, λ e m. ⊎_elim (λ p. (rw q at r.1) e (Memᴰ-head p)) (d e) (Memᴰ-cases_cons m)))
            (λ g. inr (let z = ap count_of q in omega arith)) last
        pick (inr l) = inr (⊎_elim (λ r. let z = ap count_of r.0 in omega arith) (λ g. omega arith) last)

    -- ---- passes come to rest

    module _ (xs : List Edge) (heads : (e : Edge) → Memᴰ e xs → e.head < n) where
      -- a pass that adds no mark changes nothing, and finds the marks closed
      still : (ms : List Bool) → length ms ≡ n → eqb (count_of (sweep P es fs s ws xs ms)) (count_of ms) ≡ true
          → (sweep P es fs s ws xs ms ≡ ms) × Closed P es fs s ws xs ms
      still ms h q =
          ⊎_elim (λ r. r) (λ g. absurd (let z : count_of (sweep P es fs s ws xs ms) ≡ count_of ms = eqb-true _ _ q in omega arith)) (sweep_swept xs heads ms h)

      -- one pass more is a pass over what was found
      pub hunt_next : (k : ℕ) (ms : List Bool) → length ms ≡ n → hunt P es fs s ws xs (suc k) ms ≡ sweep P es fs s ws xs (hunt P es fs s ws xs k ms)
      unfolding hunt
      hunt_next zero ms h = by_test (eqb (count_of (sweep P es fs s ws xs ms)) (count_of ms)) (λ q. rw q (sym (still ms h q).0)) (λ q. rw q)
      hunt_next (suc k) ms h = by_test (eqb (count_of (sweep P es fs s ws xs ms)) (count_of ms))
          (λ q. rw q (sym (still ms h q).0)) (λ q. rw q (hunt_next k (sweep P es fs s ws xs ms) (sweep_length xs ms ∙ h)))

      -- With k passes to come there are at most k vertices without a mark. A pass that changes something marks one of them, so k - 1
      -- are left with k - 1 passes to come. A pass that changes nothing is the last. Where no vertex is without a mark, there is none
      -- to add.
      hunt_closed : (k : ℕ) (ms : List Bool) → length ms ≡ n → n ≤ count_of ms + k → Closed P es fs s ws xs (hunt P es fs s ws xs k ms)
      unfolding hunt
      hunt_closed zero ms h l =
          ⊎_elim (λ r. r.1) (λ g. absurd (omega (arith, count_le (sweep P es fs s ws xs ms), sweep_length xs ms))) (sweep_swept xs heads ms h)
      hunt_closed (suc k) ms h l = by_test (eqb (count_of (sweep P es fs s ws xs ms)) (count_of ms)) (λ q. rw q (still ms h q).1)
          (λ q. rw q (hunt_closed k (sweep P es fs s ws xs ms) (sweep_length xs ms ∙ h)
          (⊎_elim (λ r. absurd (eqb-false _ _ q (ap count_of r.0))) (λ g. omega arith) (sweep_swept xs heads ms h))))

-- ---- the marks are the closure

pub same_marks : (ms ls : List Bool) → length ms ≡ length ls → ((t : ℕ) → (marked ms t ≡ true) ↔ (marked ls t ≡ true)) → ms ≡ ls
same_marks ms ls h f = ext_get_or false ms ls h (λ t l. same_test (marked ms t) (marked ls t) (f t))

module _ (P : Property) (es fs : List Edge) (s : ℕ) (ws : List ℕ) (n : ℕ) where
  -- the affected vertices, as marks
  abbrev marks : List Bool
  marks = affected P es fs s ws n

  pub affected_length : length marks ≡ n
  unfolding affected
  affected_length = hunt_length P es fs s ws es n _ (replicate n false) (length-replicate n false)

  -- the hunt starts from no marks and adds only those of affected vertices
  pub affected_named : Named P es fs s ws marks
  unfolding affected
  affected_named =
      hunt_keeps P es fs s ws (Named P es fs s ws) es (sweep_named P es fs s ws es (λ e m. m)) _ (replicate n false) (none_named P es fs s ws n)

  pub unaffected_unmarked : (t : ℕ) → (Affected P es fs s ws t → ⊥) → marked marks t ≡ false
  unaffected_unmarked t d = is_false (marked marks t) (λ q. d (affected_named t q))

  -- the landmark is never marked
  pub landmark_safe : marked marks s ≡ false
  landmark_safe = unaffected_unmarked s (landmark_unaffected P es fs s ws)

  module _ (heads : (e : Edge) → Memᴰ e es → e.head < n) where
    pub all_marked : {t : ℕ} → Affected P es fs s ws t → marked marks t ≡ true
    unfolding affected
    all_marked a = closed_marked P es fs s ws marks (hunt_closed P es fs s ws n es heads n (replicate n false) (length-replicate n false) (omega arith)) a

    -- What a hunt has to show that goes over the edges in another way: it marks affected vertices alone, and no edge is left that would
    -- mark its head. Then it has marked what the passes mark, since both have exactly the closure.
    pub closed_exact : (ms : List Bool) → length ms ≡ n → Named P es fs s ws ms → Closed P es fs s ws es ms → ms ≡ marks
    closed_exact ms h g c = same_marks ms marks (h ∙ sym affected_length)
        (λ t. (λ q. all_marked (g t q), λ q. closed_marked P es fs s ws ms c (affected_named t q)))

  module _ (inside : Within n es) where
    -- Seen from a head that is not marked: a held edge into it is not removed, and its tail is not marked either. A removed one would have
    -- marked the head, and so would a marked tail.
    pub affected_closed : (e : Edge) → Memᴰ e es → tight P ws e ≡ true → e.head ≢ s → word P ws e.head ≢ P.none
        → marked marks e.head ≡ false → (removed P es fs e ≡ false) × (marked marks e.tail ≡ false)
    affected_closed e m t d w q =
        let h : Held P s ws e = record { tight = t; elsewhere = d; routed = w } in
        let clash : Affected P es fs s ws e.head → ⊥ = λ a. true≢false (sym (all_marked inside.heads a) ∙ q) in
        by_test (removed P es fs e) (λ r. absurd (clash (at_removed m r h))) (λ r. (r, unaffected_unmarked e.tail (λ a. clash (onward a m r h))))

-- The computed marks are the inductive closure. Each pass marks only what the closure names. After n passes a further one would
-- change nothing, so the marks are closed under both rules of the closure, and by induction along these rules they have all
-- that it names.
pub affected_exact : AffectedExact
affected_exact P es fs s ws n heads t = (affected_named P es fs s ws n t, all_marked P es fs s ws n heads)

-- The closure speaks of the edges in the table and not of their order.
pub any_order : AnyOrder
any_order P es xs fs s ws n heads members =
    let h = length-replicate n false in
    closed_exact P es fs s ws n heads (hunt P es fs s ws xs n (replicate n false)) (hunt_length P es fs s ws xs n n (replicate n false) h)
    (hunt_keeps P es fs s ws (Named P es fs s ws) xs (sweep_named P es fs s ws xs (λ e. (members e).0)) n (replicate n false) (none_named P es fs s ws n))
    (λ e m. hunt_closed P es fs s ws n xs (λ x i. heads x ((members x).0 i)) n (replicate n false) h (omega arith) e ((members e).1 m))

-- ---- they are no more than document 01 alone had

-- An edge that is removed for the property is not in the new table by its three words, since such a one is not lost.
fewer : {P : Property} → Laws P → (es fs : List Edge) → Weighs fs → Fewer P es fs
fewer {P} L es fs h s ws out closed t (at_removed {e = e} m r k) = closed e m k (by_test (among fs e)
    (λ q. absurd (true≢false (sym r ∙ kept_stays L es fs h e (among_mem fs e q)))) (λ q. rw q))
fewer L es fs h s ws out closed t (onward {e = e} a m r k) = closed e m k (or_right (not (among fs e)) (fewer L es fs h s ws out closed e.tail a))

pub fewer_affected : FewerAffected
fewer_affected P L n es fs h = let z = rules_weigh n fs h in (fewer L es fs z, fewer L (map reverse es) (map reverse fs) (weighs_reverse fs z))
