-- The walk along a list of changes that joins each retune: what it has stored so far, and what the list has in the end. Assumes nothing.
--
--   is_old xs k      == change k is of an edge of the old table
--   Joined xs ys g k == ys is xs, where each retune of the first k changes, of g, is joined
--
-- A retune is asked for in the list as it is by then. That is the same as in the list at first: pairs stay, and the weights of changes k and k + 1 do, but where
-- change k is the second of a retune; then it is none in either list, for it is of the pair of the change before it.
use Rattle.property.proofs.Basics.{◌≡◌, refl, sym, ap, ◌∙◌, Bool, true, false, not, ◌&&◌, cond, true≢false, List, ℕ, ◌+◌, ◌-◌, ◌*◌, ◌/◌, ◌≤◌, ◌<◌, ℕ_discrete, arith, length, get_or, take, length-take-le, get_or-take, ltb, ltb-true, lt-ltb, eqb, eqb-true, eqb-false, ne_eqb, not-true, not-false}
use Rattle.property.proofs.Tests.{by_test, is_false}
use Rattle.graph.specs.Refusal.{accept}
use Rattle.graph.specs.Arc.{arc, arc_head, arc_weight}
use Rattle.graph.specs.Edge.{Edge, same_pair}
use Rattle.graph.specs.Table.{rules}
use Rattle.graph.proofs.Tests.{both, and_true}
use Rattle.graph.proofs.Edges.{pair_ends}
use Rattle.graph.proofs.Arcs.{head_arc, weight_arc}
use Rattle.affected.proofs.Net.{rules_plain}
use Rattle.compare.specs.Code.{before, after, changes_in, changed, Inside, Unjoined, is_retune, put, joined, Lists, Differences}
use Rattle.compare.proofs.Ruled.{length_put, put_other, put_first, put_second}
use Rattle.compare.proofs.Retunes.{Split, Retunes, Told, Made, split_flip, retunes_flip, retunes_back, told_flip, made_flip, made_lists}

-- ---- a retune by the words of a list

abbrev is_old : List ℕ → ℕ → Bool
is_old xs k = not (eqb (before xs k).weight 0)

changed_pair : (xs : List ℕ) (i j : ℕ) → same_pair (changed xs i) (changed xs j) ≡ same_pair (before xs i) (before xs j)
changed_pair xs i j = by_test (eqb (before xs i).weight 0)
    (λ p. rw p (by_test (eqb (before xs j).weight 0) (λ q. rw q) (λ q. rw q)))
    (λ p. rw p (by_test (eqb (before xs j).weight 0) (λ q. rw q) (λ q. rw q)))

-- one of two tests holds
apart_of : (a b : Bool) → cond a (not b) b ≡ true → not b ≡ not (not a)
apart_of true b h = h
apart_of false b h = ap not h

of_apart : (a b : Bool) → not b ≡ not (not a) → cond a (not b) b ≡ true
of_apart true b h = h
of_apart false b h = not-false b h

not_both : (a b : Bool) → not (a && b) ≡ true → a ≡ true → b ≡ false
not_both true b h q = not-true b h
not_both false b h q = absurd (true≢false (sym q))

module _ (xs : List ℕ) (g k : ℕ) where
  retunes_of : is_retune xs g k ≡ true → Retunes g (changed xs) (is_old xs) k
  unfolding is_retune
  retunes_of h =
      let (a, h₁) = both (ltb (k + 1) g) _ h in
      let (b, h₂) = both (same_pair (before xs k) (before xs (k + 1))) _ h₁ in
      let (c, h₃) = both _ _ h₂ in
      let (d, e) = both _ _ h₃ in
      record {
        next = ltb-true _ _ a;
        pair = changed_pair xs k (k + 1) ∙ b;
        first = λ l. changed_pair xs (k - 1) k ∙ not_both _ _ c (lt-ltb 0 k l);
        last = λ l. changed_pair xs k (k + 2) ∙ not_both _ _ d (lt-ltb (k + 2) g l);
        apart = apart_of (eqb (before xs k).weight 0) (eqb (before xs (k + 1)).weight 0) e;
      }

  of_retunes : Retunes g (changed xs) (is_old xs) k → is_retune xs g k ≡ true
  unfolding is_retune
  of_retunes r = and_true (lt-ltb (k + 1) g r.next) (and_true (sym (changed_pair xs k (k + 1)) ∙ r.pair)
      (and_true (ap not (is_false _ (λ h. let z = both (ltb 0 k) _ h in true≢false (sym z.1 ∙ sym (changed_pair xs (k - 1) k) ∙ r.first (ltb-true 0 k z.0)))))
      (and_true (ap not (is_false _ (λ h. let z = both (ltb (k + 2) g) _ h in true≢false (sym z.1 ∙ sym (changed_pair xs k (k + 2)) ∙ r.last (ltb-true (k + 2) g z.0)))))
      (of_apart (eqb (before xs k).weight 0) (eqb (before xs (k + 1)).weight 0) r.apart))))

-- ---- the tests of a retune, one by one

module _ (xs : List ℕ) (g k : ℕ) where
  pub retune_next : is_retune xs g k ≡ true → k + 1 < g
  retune_next h = (retunes_of xs g k h).next

  pub retune_end : g ≤ k + 1 → is_retune xs g k ≡ false
  retune_end l = is_false _ (λ h. let z = (retunes_of xs g k h).next in omega arith)

  pub retune_unpaired : same_pair (before xs k) (before xs (k + 1)) ≡ false → is_retune xs g k ≡ false
  retune_unpaired q = is_false _ (λ h. true≢false (sym (retunes_of xs g k h).pair ∙ changed_pair xs k (k + 1) ∙ q))

  -- a change of the pair of the one before it is no first of a retune
  pub retune_behind : 0 < k → same_pair (before xs (k - 1)) (before xs k) ≡ true → is_retune xs g k ≡ false
  retune_behind l p = is_false _ (λ h. true≢false (sym p ∙ sym (changed_pair xs (k - 1) k) ∙ (retunes_of xs g k h).first l))

  pub retune_ahead : k + 2 < g → same_pair (before xs k) (before xs (k + 2)) ≡ true → is_retune xs g k ≡ false
  retune_ahead l p = is_false _ (λ h. true≢false (sym p ∙ sym (changed_pair xs k (k + 2)) ∙ (retunes_of xs g k h).last l))

  pub retune_test : k + 1 < g → same_pair (before xs k) (before xs (k + 1)) ≡ true → (0 < k → same_pair (before xs (k - 1)) (before xs k) ≡ false)
      → (k + 2 < g → same_pair (before xs k) (before xs (k + 2)) ≡ false) → is_retune xs g k ≡ cond (eqb (before xs k).weight 0) (not (eqb (before xs (k + 1)).weight 0)) (eqb (before xs (k + 1)).weight 0)
  unfolding is_retune
  retune_test l p a b = rw (lt-ltb (k + 1) g l, p, never (ltb 0 k) _ (λ q. a (ltb-true 0 k q)), never (ltb (k + 2) g) _ (λ q. b (ltb-true (k + 2) g q)))
    where
      never : (a b : Bool) → (a ≡ true → b ≡ false) → (a && b) ≡ false
      never true b h = h refl
      never false b h = refl

-- by the same pairs and the same weights
retune_eq : (ys xs : List ℕ) (g k : ℕ) → same_pair (before ys k) (before ys (k + 1)) ≡ same_pair (before xs k) (before xs (k + 1))
    → same_pair (before ys (k - 1)) (before ys k) ≡ same_pair (before xs (k - 1)) (before xs k) → same_pair (before ys k) (before ys (k + 2)) ≡ same_pair (before xs k) (before xs (k + 2))
    → (before ys k).weight ≡ (before xs k).weight → (before ys (k + 1)).weight ≡ (before xs (k + 1)).weight → is_retune ys g k ≡ is_retune xs g k
unfolding is_retune
retune_eq ys xs g k p q r v w = rw (p, q, r, v, w)

-- ---- so far

pub record Joined (xs ys : List ℕ) (g k : ℕ) : Type 0 where
  pub size : length ys ≡ length xs
  pub ends : (i : ℕ) → ((before ys i).tail ≡ (before xs i).tail) × ((before ys i).head ≡ (before xs i).head)
  pub first_old : (i : ℕ) → i < k → is_retune xs g i ≡ true → is_old xs i ≡ true → ((before ys i).weight ≡ (before xs i).weight) × ((after ys i).weight ≡ (after xs (i + 1)).weight)
  pub first_new : (i : ℕ) → i < k → is_retune xs g i ≡ true → is_old xs i ≡ false → ((before ys i).weight ≡ (before xs (i + 1)).weight) × ((after ys i).weight ≡ (after xs i).weight)
  pub second : (i : ℕ) → i < k → is_retune xs g i ≡ true → ((before ys (i + 1)).weight ≡ 0) × ((after ys (i + 1)).weight ≡ 0)
  pub other : (i : ℕ) → (i < k → is_retune xs g i ≡ false) → (0 < i → i ≤ k → is_retune xs g (i - 1) ≡ false) → ((before ys i).weight ≡ (before xs i).weight) × ((after ys i).weight ≡ (after xs i).weight)

module _ (xs ys : List ℕ) (g k : ℕ) (t : Joined xs ys g k) where
  -- change k is as it was, but where it is the second of a retune
  kept : (0 < k → is_retune xs g (k - 1) ≡ false) → ((before ys k).weight ≡ (before xs k).weight) × ((after ys k).weight ≡ (after xs k).weight)
  kept p = t.other k (λ l. absurd (omega arith)) (λ l _. p l)

  kept_next : ((before ys (k + 1)).weight ≡ (before xs (k + 1)).weight) × ((after ys (k + 1)).weight ≡ (after xs (k + 1)).weight)
  kept_next = t.other (k + 1) (λ l. absurd (omega arith)) (λ l m. absurd (omega arith))

  pair_as : (i j : ℕ) → same_pair (before ys i) (before ys j) ≡ same_pair (before xs i) (before xs j)
  pair_as i j = rw ((t.ends i).0, (t.ends i).1, (t.ends j).0, (t.ends j).1)

  after_retune : 0 < k → is_retune xs g (k - 1) ≡ true → same_pair (before xs (k - 1)) (before xs k) ≡ true
  after_retune l q =
      let e : k - 1 + 1 ≡ k = omega arith in
      sym (changed_pair xs (k - 1) k) ∙ ap (λ i. same_pair (changed xs (k - 1)) (changed xs i)) (sym e) ∙ (retunes_of xs g (k - 1) q).pair

  retune_as : is_retune ys g k ≡ is_retune xs g k
  retune_as = by_test (ltb 0 k && is_retune xs g (k - 1))
      (λ h. let z = both (ltb 0 k) _ h in
      let l = ltb-true 0 k z.0 in
      let p = after_retune l z.1 in
      retune_behind ys g k l (pair_as (k - 1) k ∙ p) ∙ sym (retune_behind xs g k l p))
      (λ h. same_retune (kept (λ l. rw (lt-ltb 0 k l) at h)).0)
    where
      same_retune : (before ys k).weight ≡ (before xs k).weight → is_retune ys g k ≡ is_retune xs g k
      same_retune w = retune_eq ys xs g k (pair_as k (k + 1)) (pair_as (k - 1) k) (pair_as k (k + 2)) w kept_next.0

  -- change k is no retune
  joined_skip : is_retune xs g k ≡ false → Joined xs ys g (k + 1)
  joined_skip q = record {
    size = t.size;
    ends = t.ends;
    first_old = λ i l h o. t.first_old i (below i l h) h o;
    first_new = λ i l h o. t.first_new i (below i l h) h o;
    second = λ i l h. t.second i (below i l h) h;
    other = λ i a b. t.other i (λ l. a (omega arith)) (λ l m. b l (omega arith));
  }
    where
      below : (i : ℕ) → i < k + 1 → is_retune xs g i ≡ true → i < k
      below i l h = elim (ℕ_discrete i k) [ yes e ↦ absurd (true≢false (sym h ∙ ap (is_retune xs g) e ∙ q)) | no d ↦ omega arith ]

  -- change k is one, and is joined
  module _ (q : is_retune xs g k ≡ true) (long : 2 * (k + 1) + 1 < length ys) where
    alone : 0 < k → is_retune xs g (k - 1) ≡ false
    alone l = is_false _ (λ h. true≢false (sym q ∙ retune_behind xs g k l (after_retune l h)))

    abbrev zs : List ℕ
    zs = joined ys k

    -- where change k is of a new edge, it gets the other's first word, and else the other's second word
    abbrev is_new : Bool
    is_new = eqb (before ys k).weight 0

    abbrev first_word : ℕ
    first_word = cond is_new (get_or ys (2 * (k + 1)) 0) (get_or ys (2 * k) 0)

    abbrev second_word : ℕ
    second_word = cond is_new (get_or ys (2 * k + 1) 0) (get_or ys (2 * (k + 1) + 1) 0)

    abbrev once : List ℕ
    once = put ys k first_word second_word

    long_once : 2 * (k + 1) + 1 < length once
    long_once = omega (arith, long, length_put ys k first_word second_word)

    abbrev no_old : ℕ
    no_old = arc (before ys k).tail 0

    abbrev no_new : ℕ
    no_new = arc (before ys k).head 0

    word_first : get_or zs (2 * k) 0 ≡ first_word
    unfolding joined
    word_first = put_other once (k + 1) no_old no_new (2 * k) (λ e. omega arith) (λ e. omega arith) ∙ put_first ys k first_word second_word (omega arith)

    word_second : get_or zs (2 * k + 1) 0 ≡ second_word
    unfolding joined
    word_second = put_other once (k + 1) no_old no_new (2 * k + 1) (λ e. omega arith) (λ e. omega arith) ∙ put_second ys k first_word second_word (omega arith)

    word_third : get_or zs (2 * (k + 1)) 0 ≡ no_old
    unfolding joined
    word_third = put_first once (k + 1) no_old no_new long_once

    word_fourth : get_or zs (2 * (k + 1) + 1) 0 ≡ no_new
    unfolding joined
    word_fourth = put_second once (k + 1) no_old no_new long_once

    word_other : (i : ℕ) → (i ≡ k → ⊥) → (i ≡ k + 1 → ⊥) → (get_or zs (2 * i) 0 ≡ get_or ys (2 * i) 0) × (get_or zs (2 * i + 1) 0 ≡ get_or ys (2 * i + 1) 0)
    unfolding joined
    word_other i d e = (
      put_other once (k + 1) no_old no_new (2 * i) (λ z. e (omega arith)) (λ z. omega arith) ∙ put_other ys k first_word second_word (2 * i) (λ z. d (omega arith)) (λ z. omega arith),
      put_other once (k + 1) no_old no_new (2 * i + 1) (λ z. omega arith) (λ z. e (omega arith)) ∙ put_other ys k first_word second_word (2 * i + 1) (λ z. omega arith) (λ z. d (omega arith)),
    )

    one_pair : ((before ys (k + 1)).tail ≡ (before ys k).tail) × ((before ys (k + 1)).head ≡ (before ys k).head)
    one_pair = let z = pair_ends (before ys k) (before ys (k + 1)) (pair_as k (k + 1) ∙ sym (changed_pair xs k (k + 1)) ∙ (retunes_of xs g k q).pair) in (sym z.0, sym z.1)

    ends_first : ((before zs k).tail ≡ (before ys k).tail) × ((before zs k).head ≡ (before ys k).head)
    ends_first = (
      ap arc_head word_first ∙ by_test is_new (λ b. rw b one_pair.0) (λ b. rw b),
      ap arc_head word_second ∙ by_test is_new (λ b. rw b) (λ b. rw b one_pair.1),
    )

    ends_next : ((before zs (k + 1)).tail ≡ (before ys (k + 1)).tail) × ((before zs (k + 1)).head ≡ (before ys (k + 1)).head)
    ends_next = (
      ap arc_head word_third ∙ head_arc (before ys k).tail 0 (omega arith) ∙ sym one_pair.0,
      ap arc_head word_fourth ∙ head_arc (before ys k).head 0 (omega arith) ∙ sym one_pair.1,
    )

    ends_kept : (i : ℕ) → ((before zs i).tail ≡ (before ys i).tail) × ((before zs i).head ≡ (before ys i).head)
    ends_kept i = elim (ℕ_discrete i k) [
      | yes e ↦ rw e ends_first
      | no d ↦ elim (ℕ_discrete i (k + 1)) [ yes e ↦ rw e ends_next | no f ↦ let z = word_other i d f in (ap arc_head z.0, ap arc_head z.1) ]
    ]

    weights_other : (i : ℕ) → (i ≡ k → ⊥) → (i ≡ k + 1 → ⊥) → ((before zs i).weight ≡ (before ys i).weight) × ((after zs i).weight ≡ (after ys i).weight)
    weights_other i d e = let z = word_other i d e in (ap arc_weight z.0, ap arc_weight z.1)

    size_kept : length zs ≡ length ys
    unfolding joined
    size_kept = length_put once (k + 1) no_old no_new ∙ length_put ys k first_word second_word

    joined_turn : Joined xs zs g (k + 1)
    joined_turn = record {
      size = size_kept ∙ t.size;
      ends = λ i. let z = ends_kept i in let y = t.ends i in (z.0 ∙ y.0, z.1 ∙ y.1);
      first_old = λ i l h o. elim (ℕ_discrete i k) [
        | yes e ↦ rw e (old_first (rw e at o))
        | no d ↦ let z = weights_other i d (λ e. omega arith) in let y = t.first_old i (omega arith) h o in (z.0 ∙ y.0, z.1 ∙ y.1)
      ];
      first_new = λ i l h o. elim (ℕ_discrete i k) [
        | yes e ↦ rw e (new_first (rw e at o))
        | no d ↦ let z = weights_other i d (λ e. omega arith) in let y = t.first_new i (omega arith) h o in (z.0 ∙ y.0, z.1 ∙ y.1)
      ];
      second = λ i l h. elim (ℕ_discrete i k) [
        | yes e ↦ rw e (ap arc_weight word_third ∙ weight_arc (before ys k).tail 0 (omega arith), ap arc_weight word_fourth ∙ weight_arc (before ys k).head 0 (omega arith))
        | no d ↦
            let z = weights_other (i + 1) (λ e. let u : i ≡ k - 1 = omega arith in true≢false (sym h ∙ ap (is_retune xs g) u ∙ alone (omega arith))) (λ e. d (omega arith)) in
            let y = t.second i (omega arith) h in
            (z.0 ∙ y.0, z.1 ∙ y.1)
      ];
      other = λ i a b.
          let z = weights_other i (λ e. true≢false (sym q ∙ ap (is_retune xs g) (sym e) ∙ a (omega arith)))
          (λ e. let u : k ≡ i - 1 = omega arith in true≢false (sym q ∙ ap (is_retune xs g) u ∙ b (omega arith) (omega arith))) in
          let y = t.other i (λ l. a (omega arith)) (λ l m. b l (omega arith)) in
          (z.0 ∙ y.0, z.1 ∙ y.1);
    }
      where
        old_first : is_old xs k ≡ true → ((before zs k).weight ≡ (before xs k).weight) × ((after zs k).weight ≡ (after xs (k + 1)).weight)
        old_first o = let b : is_new ≡ false = ap (λ w. eqb w 0) (kept alone).0 ∙ not-true _ o in
            (ap arc_weight (word_first ∙ rw b) ∙ (kept alone).0, ap arc_weight (word_second ∙ rw b) ∙ kept_next.1)

        new_first : is_old xs k ≡ false → ((before zs k).weight ≡ (before xs (k + 1)).weight) × ((after zs k).weight ≡ (after xs k).weight)
        new_first o = let b : is_new ≡ true = ap (λ w. eqb w 0) (kept alone).0 ∙ not-false _ o in
            (ap arc_weight (word_first ∙ rw b) ∙ kept_next.0, ap arc_weight (word_second ∙ rw b) ∙ (kept alone).1)

  pub joined_step : 2 * g ≤ length xs → Joined xs (cond (is_retune ys g k) (joined ys k) ys) g (k + 1)
  joined_step l = by_test (is_retune xs g k)
      (λ q. rw (retune_as ∙ q) (joined_turn q (let z = retune_next xs g k q in omega (arith, t.size))))
      (λ q. rw (retune_as ∙ q) (joined_skip q))

-- ---- the list in the end

module _ (es fs : List Edge) (g : ℕ) (xs : List ℕ) (u : Unjoined es fs g xs) where
  told : Told g (λ k. (before xs k).tail) (λ k. (before xs k).head) (λ k. (before xs k).weight) (λ k. (after xs k).weight) (changed xs) (is_old xs)
  told = record {
    old = λ k l q. let z = not-true (eqb (before xs k).weight 0) q in (rw z, eqb-true _ _ (not-false _ (sym (u.one k l) ∙ z)));
    new = λ k l q. let z = not-false (eqb (before xs k).weight 0) q in (rw z, eqb-true _ _ z);
  }

  split : Split es fs g (changed xs) (is_old xs)
  split = record {
    old = λ k l q. let z = not-true _ q in let y = eqb-false (before xs k).weight 0 z in rw z (u.old.lacked k l (omega arith));
    new = λ k l q. let z = not-false _ q in let y = eqb-false (after xs k).weight 0 (not-true _ (sym (u.one k l) ∙ z)) in rw z (u.new.lacked k l (omega arith));
    all_old = λ e m q.
        let (k, l, z) = u.old.all e m q in
        let y = ne_eqb (before xs k).weight 0 (λ p. let w = u.old.weighs e m in let d = ap (λ (f : Edge). f.weight) z in omega arith) in
        (k, l, ap not y, rw y z);
    all_new = λ e m q.
        let (k, l, z) = u.new.all e m q in
        let y = u.one k l ∙ ap not (ne_eqb (after xs k).weight 0 (λ p. let w = u.new.weighs e m in let d = ap (λ (f : Edge). f.weight) z in omega arith)) in
        (k, l, ap not y, rw y z);
    rises = u.ascends;
  }

lists_as : {es fs : List Edge} {g h : ℕ} {f k : ℕ → Edge} {o p : ℕ → ℕ} → h ≡ g → ((i : ℕ) → i < g → k i ≡ f i) → ((i : ℕ) → i < g → p i ≡ o i) → Lists es fs g f o → Lists es fs h k p
lists_as q e u l = rw q (record {
  lacks = record {
    lacked = λ i a w. let x = e i a in rw x (l.lacks.lacked i a (rw x at w));
    all = λ x m r. let (i, a, z) = l.lacks.all x m r in (i, a, e i a ∙ z);
    weighs = l.lacks.weighs;
  };
  other = λ i a w. let x = e i a in rw (x, u i a) (l.other i a (rw x at w));
})

module _ (xs ys : List ℕ) (g : ℕ) (t : Joined xs ys g g) where
  made : Made g (is_old xs) (is_retune xs g) (λ k. (before xs k).weight) (λ k. (after xs k).weight) (λ k. (before ys k).weight) (λ k. (after ys k).weight)
  made = record { first_old = t.first_old; first_new = t.first_new; second = t.second; other = λ k l p q. t.other k (λ _. p) (λ b _. q b) }

  module _ (long : 2 * g ≤ length ys) where
    word_taken : (i : ℕ) → i < 2 * g → get_or (take (2 * g) ys) i 0 ≡ get_or ys i 0
    word_taken i l = get_or-take (2 * g) ys i 0 l

    pub joined_differences : (n : ℕ) (es fs : List Edge) → rules n es ≡ accept → rules n fs ≡ accept → Unjoined es fs g xs → Differences es fs (take (2 * g) ys)
    joined_differences n es fs a b u =
        let old = rules_plain n es a in
        let new = rules_plain n fs b in
        let z = length-take-le (2 * g) ys long in
        let q : changes_in (take (2 * g) ys) ≡ g = omega arith in
        record {
          old = lists_as q (λ i l. rw (word_taken (2 * i) (omega arith), word_taken (2 * i + 1) (omega arith), (t.ends i).0, (t.ends i).1)) (λ i l. ap arc_weight (word_taken (2 * i + 1) (omega arith)))
              (made_lists old new (split es fs g xs u) (told es fs g xs u) made (retunes_of xs g) (of_retunes xs g) u.old.weighs);
          new = lists_as q (λ i l. rw (word_taken (2 * i) (omega arith), word_taken (2 * i + 1) (omega arith), (t.ends i).0, (t.ends i).1)) (λ i l. ap arc_weight (word_taken (2 * i) (omega arith)))
              (made_lists new old (split_flip (split es fs g xs u)) (told_flip (told es fs g xs u)) (made_flip made) (λ k r. retunes_flip (retunes_of xs g k r)) (λ k r. of_retunes xs g k (retunes_back r)) u.new.weighs);
        }

    pub joined_inside : 2 * g ≤ length xs → (n : ℕ) → Inside n (take (2 * g) xs) → Inside n (take (2 * g) ys)
    joined_inside short n h k l =
        let m : k < 2 * g = omega (arith, length-take-le (2 * g) ys long) in
        let y = h k (omega (arith, length-take-le (2 * g) xs short)) in
        rw (word_taken k m, head_as (k / 2) (omega arith) (omega arith) (ℕ_discrete k (2 * (k / 2))), ← (get_or-take (2 * g) xs k 0 m)) y
      where
        head_as : (i : ℕ) → 2 * i ≤ k → k ≤ 2 * i + 1 → Dec (k ≡ 2 * i) → arc_head (get_or ys k 0) ≡ arc_head (get_or xs k 0)
        head_as i a b (yes e) = rw e (t.ends i).0
        head_as i a b (no d) = let e : k ≡ 2 * i + 1 = omega arith in rw e (t.ends i).1
