-- A walk along two tables lists what either lacks. Assumes nothing.
--
--   due s i s' j         == edge i of s comes no later than edge j of s': the walk goes past it
--   Step s s' i j b c    == one of the edges at hand is there; b and c say which of them are due
--   Noted fs i e A       == e is one of the edges A a, of a below i, and fs lacks it
--   Half fs i g f A      == of the edges A a, of a below i, those that fs lacks are listed: by the edges f k, of k below g, that have a weight
--   Side s s' f i j g    == so far for the table s: by the edges f k; and the edges of s' that are gone past precede the one at hand
--   the_one f h k        == the edge of change k: f k, or h k where f k has no weight
--   Walk s s' f h i j g  == so far for both tables, by f k and h k: one of them has a weight, and these ascend
--   Words s s' i j b c x y o w == the words of a step: the pair of the edge that comes first, and its weights in both tables, 0 for none
--   Listed s s' xs i j g == the walk so far, with the list xs of changes, whose tails and heads are vertices
--
-- Both tables are sorted. At each step the edge that comes first is gone past: if it comes before the other table's edge at hand, it stands
-- nowhere in the other table, since all before that one precede it and all from there on come after it. If the two are the same edge, both are
-- gone past, and the other table does not lack it. What is listed was gone past, so that it precedes what is at hand.
use Rattle.property.proofs.Basics.{◌≡◌, refl, sym, ap, ◌∙◌, ◌⊎◌, inl, inr, ⊎_elim, Bool, true, false, not, ◌&&◌, cond, true≢false, List, ℕ, ◌+◌, ◌*◌, ◌≤◌, ◌<◌, ℕ_discrete, dec_lt, arith, length, get_or, take, length-take-le, get_or-take, eqb, ltb, ltb-true, lt-ltb, eqb-false, eq-eqb, ne_eqb, not-true, not-false}
use Rattle.property.proofs.Tests.{is_true, by_test}
use Rattle.graph.specs.Limits.{max_weight}
use Rattle.graph.specs.Arc.{arc_weights, arc, arc_head}
use Rattle.graph.specs.Edge.{Edge, edge, among, precedes}
use Rattle.graph.proofs.Tests.{both}
use Rattle.graph.proofs.Edges.{same_eq, mem_among}
use Rattle.graph.proofs.Sorted.{before_asym}
use Rattle.graph.proofs.Order.{EdgeFacts, table_ordered}
use Rattle.graph.proofs.Arcs.{head_arc, weight_arc}
use Rattle.graph.proofs.Records.{edges_mem}
use Rattle.compare.specs.Code.{before, after, Inside, Lacks, Unjoined, put, Tables}
use Rattle.compare.proofs.Ruled.{Ruled, all, at, Past, at_facts, all_index, rises, passed_none, passed_more, passed_absent, put_other, put_first, put_second}

-- ---- which edge comes first

module _ {n : ℕ} (s : Ruled n) (i : ℕ) (s' : Ruled n) (j : ℕ) where
  abbrev pub due : Bool
  due = ltb i s.count && not (ltb j s'.count && precedes (at s' j) (at s i))

  due_first : due ≡ true → (i < s.count) × (j < s'.count → precedes (at s' j) (at s i) ≡ false)
  due_first h =
      let z = both (ltb i s.count) _ h in
      let y = not-true (ltb j s'.count && precedes (at s' j) (at s i)) z.1 in
      (ltb-true i s.count z.0, λ l. rw (lt-ltb j s'.count l) at y)

  due_later : due ≡ false → i < s.count → (j < s'.count) × (precedes (at s' j) (at s i) ≡ true)
  due_later h l =
      let x : not (ltb j s'.count && precedes (at s' j) (at s i)) ≡ false = rw (lt-ltb i s.count l) at h in
      let z = both (ltb j s'.count) _ (not-false _ x) in
      (ltb-true j s'.count z.0, z.1)

  due_low : (b : Bool) → due ≡ b → i ≤ s.count → cond b (i + 1) i ≤ s.count
  due_low true d l = let z = (due_first d).0 in omega arith
  due_low false d l = l

module _ {n : ℕ} (s : Ruled n) (i : ℕ) (s' : Ruled n) (j : ℕ) where
  -- one of them comes first
  due_some : due s i s' j ≡ false → due s' j s i ≡ false → i < s.count → ⊥
  due_some a b l =
      let x = due_later s i s' j a l in
      let y = due_later s' j s i b x.0 in
      true≢false (sym y.1 ∙ before_asym table_ordered (at s' j) (at s i) x.1)

  -- if both do, they are the same
  module _ (d : due s i s' j ≡ true) (e : due s' j s i ≡ true) where
    met : at s i ≡ at s' j
    met = same_eq (at s i) (at s' j) (is_true _ (λ q.
        let x = due_first s i s' j d in
        let y = due_first s' j s i e in
        true≢false (sym (table_ordered.trichotomy (at s i) (at s' j) (y.1 x.0) q) ∙ x.1 y.0)))

    met_among : among (all s') (at s i) ≡ true
    met_among = ap (among (all s')) met ∙ mem_among (edges_mem _ _ _ _ s'.room j (due_first s' j s i e).0)

  -- what precedes the edge at hand after a step
  passed_step : (i < s.count → Past s' (at s i) j) → (b c : Bool) → due s i s' j ≡ b → due s' j s i ≡ c → cond b (i + 1) i < s.count → Past s' (at s (cond b (i + 1) i)) (cond c (j + 1) j)
  passed_step p true c d e l = on c e
    where
      kept : Past s' (at s (i + 1)) j
      kept = let q = p (omega arith) in record { within = q.within; before = λ k o. table_ordered.transitive (at s' k) (at s i) (at s (i + 1)) (q.before k o) (rises s i (i + 1) (omega arith) l) }

      on : (c : Bool) → due s' j s i ≡ c → Past s' (at s (i + 1)) (cond c (j + 1) j)
      on true e = passed_more s' (at s (i + 1)) j kept (due_first s' j s i e).0 (ap (λ (x : Edge). precedes x (at s (i + 1))) (sym (met d e)) ∙ rises s i (i + 1) (omega arith) l)
      on false e = kept
  passed_step p false true d e l = let z = due_later s i s' j d l in passed_more s' (at s i) j (p l) z.0 z.1
  passed_step p false false d e l = absurd (due_some d e l)

-- ---- a step

pub record Step {n : ℕ} (s s' : Ruled n) (i j : ℕ) (b c : Bool) : Type 0 where
  pub go : (i < s.count) ⊎ (j < s'.count)
  pub old : b ≡ due s i s' j
  pub new : c ≡ due s' j s i

pub step_flip : {n : ℕ} {s s' : Ruled n} {i j : ℕ} {b c : Bool} → Step s s' i j b c → Step s' s j i c b
step_flip p = record { go = ⊎_elim inr inl p.go; old = p.new; new = p.old }

module _ {n : ℕ} {s s' : Ruled n} {i j : ℕ} where
  step_none : Step s s' i j false false → ⊥
  step_none p = ⊎_elim (due_some s i s' j (sym p.old) (sym p.new)) (due_some s' j s i (sym p.new) (sym p.old)) p.go

  module _ {b c : Bool} (p : Step s s' i j b c) where
    pub step_due : b ≡ true → i < s.count
    step_due q = (due_first s i s' j (sym p.old ∙ q)).0

    pub step_other : b ≡ false → j < s'.count
    step_other q = ⊎_elim (λ l. (due_later s i s' j (sym p.old ∙ q) l).0) (λ l. l) p.go

  pub step_on : (b c : Bool) → Step s s' i j b c → i + j < cond b (i + 1) i + cond c (j + 1) j
  step_on true true p = omega arith
  step_on true false p = omega arith
  step_on false true p = omega arith
  step_on false false p = absurd (step_none p)

-- ---- what is listed

abbrev Noted : List Edge → ℕ → Edge → (ℕ → Edge) → Type 0
Noted fs i e A = ((a : ℕ) × (a < i) × (A a ≡ e)) × (among fs e ≡ false)

pub record Half (fs : List Edge) (i g : ℕ) (f A : ℕ → Edge) : Type 0 where
  pub each : (k : ℕ) → k < g → 0 < (f k).weight → Noted fs i (f k) A
  pub every : (a : ℕ) → a < i → among fs (A a) ≡ false → (k : ℕ) × (k < g) × (f k ≡ A a)

half_none : (fs : List Edge) (f A : ℕ → Edge) → Half fs 0 0 f A
half_none fs f A = record { each = λ k l. absurd (omega arith); every = λ a l. absurd (omega arith) }

module _ {fs : List Edge} {i g : ℕ} {f A : ℕ → Edge} (t : Half fs i g f A) where
  -- by another list that has the same
  half_moved : (h : ℕ → Edge) → ((k : ℕ) → k < g → h k ≡ f k) → Half fs i g h A
  half_moved h s = record {
    each = λ k l w. let x = s k l in rw x (t.each k l (rw x at w));
    every = λ a l r. let (k, b, e) = t.every a l r in (k, b, s k b ∙ e);
  }

  -- more is listed, and more edges are gone past
  half_more : (i' g' : ℕ) → i ≤ i' → g ≤ g' → ((k : ℕ) → g ≤ k → k < g' → 0 < (f k).weight → Noted fs i' (f k) A)
      → ((a : ℕ) → i ≤ a → a < i' → among fs (A a) ≡ false → (k : ℕ) × (k < g') × (f k ≡ A a)) → Half fs i' g' f A
  half_more i' g' up on z y = record { each = λ k l w. old k l w (dec_lt k g); every = λ a l r. past a l r (dec_lt a i) }
    where
      old : (k : ℕ) → k < g' → 0 < (f k).weight → Dec (k < g) → Noted fs i' (f k) A
      old k l w (yes b) = let ((a, c, e), q) = t.each k b w in ((a, omega arith, e), q)
      old k l w (no d) = z k (omega arith) l w

      past : (a : ℕ) → a < i' → among fs (A a) ≡ false → Dec (a < i) → (k : ℕ) × (k < g') × (f k ≡ A a)
      past a l r (yes b) = let (k, c, e) = t.every a b r in (k, omega arith, e)
      past a l r (no d) = y a (omega arith) l r

  -- one edge is gone past, and listed
  half_list : among fs (A i) ≡ false → f g ≡ A i → Half fs (i + 1) (g + 1) f A
  half_list r e = half_more (i + 1) (g + 1) (omega arith) (omega arith)
      (λ k l b w. let q : k ≡ g = omega arith in rw (q, e) ((i, omega arith, refl), r))
      (λ a l b q. let p : a ≡ i = omega arith in (g, omega arith, e ∙ ap A (sym p)))

  -- one is, and is not lacked
  half_skip : among fs (A i) ≡ true → Half fs (i + 1) g f A
  half_skip r = half_more (i + 1) g (omega arith) (omega arith) (λ k l b. absurd (omega arith))
      (λ a l b q. let p : a ≡ i = omega arith in absurd (true≢false (sym r ∙ ap (λ x. among fs (A x)) (sym p) ∙ q)))

  -- none is, and what is listed more has no weight
  half_stay : (f g).weight ≡ 0 → Half fs i (g + 1) f A
  half_stay z = half_more i (g + 1) (omega arith) (omega arith) (λ k l b w. let q : k ≡ g = omega arith in let y : 0 < (f g).weight = rw q at w in absurd (omega arith)) (λ a l b. absurd (omega arith))

-- all is gone past
half_done : {n : ℕ} (s : Ruled n) (fs : List Edge) (g : ℕ) (f : ℕ → Edge) → Half fs s.count g f (at s) → Lacks (all s) fs g f
half_done s fs g f t = record {
  lacked = λ k b w. let ((a, c, e), q) = t.each k b w in (rw (← e) (edges_mem _ _ _ _ s.room a c), q);
  all = λ e m b.
      let (a, l, v) = all_index s e m in
      let (k, c, q) = t.every a l (ap (among fs) v ∙ b) in
      (k, c, q ∙ v);
  weighs = λ e m. let (a, l, v) = all_index s e m in rw (← v) (at_facts s a l).some_weight;
}

-- ---- the walk

pub record Side {n : ℕ} (s s' : Ruled n) (f : ℕ → Edge) (i j g : ℕ) : Type 0 where
  pub listed : Half (all s') i g f (at s)
  pub behind : i < s.count → Past s' (at s i) j
  pub low : i ≤ s.count

abbrev the_one : (ℕ → Edge) → (ℕ → Edge) → ℕ → Edge
the_one f h k = cond (eqb (f k).weight 0) (h k) (f k)

pub record Walk {n : ℕ} (s s' : Ruled n) (f h : ℕ → Edge) (i j g : ℕ) : Type 0 where
  pub old : Side s s' f i j g
  pub new : Side s' s h j i g
  pub few : g ≤ i + j
  pub one : (k : ℕ) → k < g → eqb (f k).weight 0 ≡ not (eqb (h k).weight 0)
  pub ascends : (a b : ℕ) → a < b → b < g → precedes (the_one f h a) (the_one f h b) ≡ true

side_start : {n : ℕ} (s s' : Ruled n) (f : ℕ → Edge) → Side s s' f 0 0 0
side_start s s' f = record { listed = half_none _ _ _; behind = λ l. passed_none s' (at s 0); low = omega arith }

pub walk_start : {n : ℕ} (s s' : Ruled n) (f h : ℕ → Edge) → Walk s s' f h 0 0 0
walk_start s s' f h = record {
  old = side_start s s' f;
  new = side_start s' s h;
  few = omega arith;
  one = λ k l. absurd (omega arith);
  ascends = λ a b k l. absurd (omega arith);
}

module _ {n : ℕ} {s s' : Ruled n} {f : ℕ → Edge} {i j g : ℕ} (t : Side s s' f i j g) where
  side_moved : (f' : ℕ → Edge) → ((k : ℕ) → k < g → f' k ≡ f k) → Side s s' f' i j g
  side_moved f' x = record { listed = half_moved t.listed _ x; behind = t.behind; low = t.low }

  side_made : (b c : Bool) → due s i s' j ≡ b → due s' j s i ≡ c → (g' : ℕ) → Half (all s') (cond b (i + 1) i) g' f (at s) → Side s s' f (cond b (i + 1) i) (cond c (j + 1) j) g'
  side_made b c d e g' l = record { listed = l; behind = passed_step s i s' j t.behind b c d e; low = due_low s i s' j b d t.low }

-- the tables change places
walk_flip : {n : ℕ} {s s' : Ruled n} {f h : ℕ → Edge} {i j g : ℕ} → Walk s s' f h i j g → Walk s' s h f j i g
walk_flip {f = f} {h = h} {g = g} w = record {
  old = w.new;
  new = w.old;
  few = let z = w.few in omega arith;
  one = λ k l. flip _ _ (w.one k l);
  ascends = λ a b k l. rw (other a (omega arith), other b l) (w.ascends a b k l);
}
  where
    flip : (x y : Bool) → x ≡ not y → y ≡ not x
    flip x true p = rw p
    flip x false p = rw p

    other : (k : ℕ) → k < g → the_one h f k ≡ the_one f h k
    other k l = rw (w.one k l) (by_test (eqb (h k).weight 0) (λ q. rw q) (λ q. rw q))

module _ {n : ℕ} {s s' : Ruled n} {f h : ℕ → Edge} {i j g : ℕ} (w : Walk s s' f h i j g) where
  -- by other lists that have the same
  walk_moved : (f' h' : ℕ → Edge) → ((k : ℕ) → k < g → f' k ≡ f k) → ((k : ℕ) → k < g → h' k ≡ h k) → Walk s s' f' h' i j g
  walk_moved f' h' x y = record {
    old = side_moved w.old f' x;
    new = side_moved w.new h' y;
    few = w.few;
    one = λ k l. rw (x k l, y k l) (w.one k l);
    ascends = λ a b k l. let c : a < g = omega arith in rw (x a c, y a c, x b l, y b l) (w.ascends a b k l);
  }

  -- what is listed precedes the edge at hand
  listed_behind : i < s.count → (k : ℕ) → k < g → precedes (the_one f h k) (at s i) ≡ true
  listed_behind l k b = by_test (eqb (f k).weight 0)
      (λ q. let z = eqb-false (h k).weight 0 (not-true _ (sym (w.one k b) ∙ q)) in
      let ((a, c, e), _) = w.new.listed.each k b (omega arith) in
      rw (q, ← e) ((w.old.behind l).before a c))
      (λ q. let z = eqb-false (f k).weight 0 q in
      let ((a, c, e), _) = w.old.listed.each k b (omega arith) in
      rw (q, ← e) (rises s a i c l))

  -- both edges are the same
  step_both : due s i s' j ≡ true → due s' j s i ≡ true → Walk s s' f h (i + 1) (j + 1) g
  step_both d e = record {
    old = side_made w.old true true d e g (half_skip w.old.listed (met_among s i s' j d e));
    new = side_made w.new true true e d g (half_skip w.new.listed (met_among s' j s i e d));
    few = let u = w.few in omega arith;
    one = w.one;
    ascends = w.ascends;
  }

  -- an edge of one table alone
  step_one : due s i s' j ≡ true → due s' j s i ≡ false → f g ≡ at s i → (h g).weight ≡ 0 → Walk s s' f h (i + 1) j (g + 1)
  step_one d e p q = record {
    old = side_made w.old true false d e (g + 1) (half_list w.old.listed (passed_absent s' (at s i) j (w.old.behind l) (λ o. (due_later s' j s i e o).1)) p);
    new = side_made w.new false true e d (g + 1) (half_stay w.new.listed q);
    few = let u = w.few in omega arith;
    one = λ k b. elim (ℕ_discrete k g) [ yes z ↦ rw (z, weighs, q) | no z ↦ w.one k (omega arith) ];
    ascends = λ a b k o. elim (ℕ_discrete b g) [
      | yes z ↦ rw (z, weighs, p) (listed_behind l a (omega arith))
      | no z ↦ w.ascends a b k (omega arith)
    ];
  }
    where
      l : i < s.count
      l = (due_first s i s' j d).0

      weighs : eqb (f g).weight 0 ≡ false
      weighs = ne_eqb (f g).weight 0 (λ z. let v = (at_facts s i l).some_weight in let y = ap (λ (x : Edge). x.weight) p in omega arith)

-- ---- a change is stored

module _ (xs : List ℕ) (g t h o w : ℕ) (long : 2 * g + 1 < length xs) (small : o < arc_weights) (short : w < arc_weights) where
  abbrev stored : List ℕ
  stored = put xs g (arc t o) (arc h w)

  kept_word : (k : ℕ) → k < 2 * g → get_or stored k 0 ≡ get_or xs k 0
  kept_word k l = put_other xs g _ _ k (λ q. omega arith) (λ q. omega arith)

  stored_before : before stored g ≡ edge t h o
  stored_before = rw (put_first xs g (arc t o) (arc h w) long, put_second xs g (arc t o) (arc h w) long, head_arc t o small, weight_arc t o small, head_arc h w short)

  stored_after : after stored g ≡ edge t h w
  stored_after = rw (put_first xs g (arc t o) (arc h w) long, put_second xs g (arc t o) (arc h w) long, head_arc t o small, head_arc h w short, weight_arc h w short)

  stored_inside : (n : ℕ) → t < n → h < n → ((k : ℕ) → k < 2 * g → arc_head (get_or xs k 0) < n) → (k : ℕ) → k < 2 * (g + 1) → arc_head (get_or stored k 0) < n
  stored_inside n a b c k l = pick (dec_lt k (2 * g)) (ℕ_discrete k (2 * g))
    where
      pick : Dec (k < 2 * g) → Dec (k ≡ 2 * g) → arc_head (get_or stored k 0) < n
      pick (yes d) e = rw (kept_word k d) (c k d)
      pick (no d) (yes e) = rw (e, put_first xs g (arc t o) (arc h w) long, head_arc t o small) a
      pick (no d) (no e) = let q : k ≡ 2 * g + 1 = omega arith in rw (q, put_second xs g (arc t o) (arc h w) long, head_arc h w short) b

-- ---- the words of a step

pub record Words {n : ℕ} (s s' : Ruled n) (i j : ℕ) (b c : Bool) (x y o w : ℕ) : Type 0 where
  pub step : Step s s' i j b c
  pub tail : x ≡ cond b (at s i).tail (at s' j).tail
  pub head : y ≡ cond b (at s i).head (at s' j).head
  pub old : o ≡ cond b (at s i).weight 0
  pub new : w ≡ cond c (at s' j).weight 0

module _ {n : ℕ} {s s' : Ruled n} {i j : ℕ} {b c : Bool} {x y o w : ℕ} (p : Words s s' i j b c x y o w) where
  pub words_low : (x < n) × (y < n) × (o ≤ max_weight) × (w ≤ max_weight)
  words_low =
      let f : b ≡ true → EdgeFacts n (at s i) = λ q. at_facts s i (step_due p.step q) in
      let g : b ≡ false → EdgeFacts n (at s' j) = λ q. at_facts s' j (step_other p.step q) in (
        rw p.tail (either_below b (λ q. (f q).tail_below) (λ q. (g q).tail_below)),
        rw p.head (either_below b (λ q. (f q).head_below) (λ q. (g q).head_below)),
        rw p.old (weight_most b (λ q. (f q).weight_most)),
        rw p.new (weight_most c (λ q. (at_facts s' j (step_due (step_flip p.step) q)).weight_most)),
      )
    where
      either_below : (b : Bool) {x y : ℕ} → (b ≡ true → x < n) → (b ≡ false → y < n) → cond b x y < n
      either_below true f g = f refl
      either_below false f g = g refl

      weight_most : (b : Bool) {x : ℕ} → (b ≡ true → x ≤ max_weight) → cond b x 0 ≤ max_weight
      weight_most true f = f refl
      weight_most false f = omega arith

-- ---- the walk by the words of a list

abbrev pub Listed : {n : ℕ} → Ruled n → Ruled n → List ℕ → ℕ → ℕ → ℕ → Type 0
Listed {n} s s' xs i j g = Walk s s' (before xs) (after xs) i j g × ((k : ℕ) → k < 2 * g → arc_head (get_or xs k 0) < n)

module _ {n : ℕ} (s s' : Ruled n) (xs : List ℕ) (i j g : ℕ) (wk : Listed s s' xs i j g) where
  moved : (ys : List ℕ) → ((k : ℕ) → k < 2 * g → get_or ys k 0 ≡ get_or xs k 0) → Walk s s' (before ys) (after ys) i j g
  moved ys e = walk_moved wk.0 _ _ (λ k l. rw (e (2 * k) (omega arith), e (2 * k + 1) (omega arith))) (λ k l. rw (e (2 * k) (omega arith), e (2 * k + 1) (omega arith)))

  -- another change can be listed
  pub walk_room : (i < s.count) ⊎ (j < s'.count) → g + 1 ≤ s.count + s'.count
  walk_room go = let z = wk.0 in ⊎_elim (λ l. omega arith) (λ l. omega arith) go

  -- any step
  pub walk_turn : 2 * g + 1 < length xs → (b c : Bool) (x y o w : ℕ) → Words s s' i j b c x y o w → Listed s s' (put xs g (arc x o) (arc y w)) (cond b (i + 1) i) (cond c (j + 1) j) (cond (eqb o w) g (g + 1))
  walk_turn long b c x y o w p =
      let (lx, ly, lo, lw) = words_low p in
      let k : cond (eqb o w) g (g + 1) ≤ g + 1 = by_test (eqb o w) (λ q. rw q (omega arith)) (λ q. rw q (omega arith)) in
      let so : o < arc_weights = omega arith in
      let sw : w < arc_weights = omega arith in
      (pick b c p (moved ys (kept_word xs g x y o w long so sw)) (stored_before xs g x y o w long so sw) (stored_after xs g x y o w long so sw), λ a l. stored_inside xs g x y o w long so sw n lx ly wk.1 a (omega arith))
    where
      ys : List ℕ
      ys = put xs g (arc x o) (arc y w)

      pick : (b c : Bool) → Words s s' i j b c x y o w → Walk s s' (before ys) (after ys) i j g → before ys g ≡ edge x y o → after ys g ≡ edge x y w
          → Walk s s' (before ys) (after ys) (cond b (i + 1) i) (cond c (j + 1) j) (cond (eqb o w) g (g + 1))
      pick true true p v a z =
          let d = sym p.step.old in
          let e = sym p.step.new in
          rw (eq-eqb o w (p.old ∙ ap (λ (f : Edge). f.weight) (met s i s' j d e) ∙ sym p.new)) (step_both v d e)
      pick true false p v a z =
          let l = (at_facts s i (step_due p.step refl)).some_weight in
          let e = p.old in
          let d = p.new in
          rw (ne_eqb o w (λ q. omega arith)) (step_one v (sym p.step.old) (sym p.step.new) (a ∙ rw (p.tail, p.head, p.old)) (ap (λ (f : Edge). f.weight) z ∙ d))
      pick false true p v a z =
          let l = (at_facts s' j (step_other p.step refl)).some_weight in
          let e = p.old in
          let d = p.new in
          rw (ne_eqb o w (λ q. omega arith)) (walk_flip (step_one (walk_flip v) (sym p.step.new) (sym p.step.old) (z ∙ rw (p.tail, p.head, p.new)) (ap (λ (f : Edge). f.weight) a ∙ e)))
      pick false false p v a z = absurd (step_none p.step)

  pub walk_inside : 2 * g ≤ length xs → Inside n (take (2 * g) xs)
  walk_inside long k l = let z = length-take-le (2 * g) xs long in rw (get_or-take (2 * g) xs k 0 (omega arith)) (wk.1 k (omega arith))

  pub walk_done : (i < s.count → ⊥) → (j < s'.count → ⊥) → Unjoined (all s) (all s') g xs
  walk_done a b =
      let w = wk.0 in
      let ei : i ≡ s.count = (let z = w.old.low in omega arith) in
      let ej : j ≡ s'.count = (let z = w.new.low in omega arith) in
      record { old = half_done s _ g _ (rw ei at w.old.listed); new = half_done s' _ g _ (rw ej at w.new.listed); one = w.one; ascends = w.ascends }

-- ---- the two tables

module _ {n m : ℕ} {ts hs ws : List ℕ} {m' : ℕ} {ts' hs' ws' : List ℕ} (t : Tables n m ts hs ws m' ts' hs' ws') where
  abbrev pub old_table : Ruled n
  old_table = record { count = m; ts = ts; hs = hs; ws = ws; room = t.old.1; sound = t.old.2 }

  abbrev pub new_table : Ruled n
  new_table = record { count = m'; ts = ts'; hs = hs'; ws = ws'; room = t.new.1; sound = t.new.2 }
