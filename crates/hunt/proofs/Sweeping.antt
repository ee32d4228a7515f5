-- A pass that leaves out the vertices that are not to do, passes until nothing is to do, and what the first one finds. Assumes nothing.
--
--   Sweeping .. i bs gs bs' gs' == a pass came as far as number i: from marks that are shut, the edges of the vertices below make of its marks what every edge
--                                 makes of those at its start, and its marks are shut; what is to do again under a number below i was marked in it
--   Hunted .. bs gs bs' gs'    == passes were made: from marks of affected vertices that are shut, these are such marks again
use Rattle.property.proofs.Basics.{◌≡◌, refl, sym, ◌∙◌, ⊎_elim, true, false, true≢false, cond, List, ◌++◌, Memᴰ, Memᴰ-not_nil, ℕ, zero, suc, ◌+◌, ◌-◌, ◌≤◌, ◌<◌, ℕ_discrete, zero-add, add-zero, sub-zero, suc-add, append_assoc, arith, length, get_or, set, get_or-set_other, [], ◌∷◌, ltb, ltb-true, lt-ltb}
use mathlib.Core.List.Memᴰ
use Rattle.property.specs.Property.{Property}
use Rattle.property.proofs.Tests.{is_false, by_test}
use Rattle.frontier.specs.Waiting.{waiting_of, capacity, any_of, count_of}
use Rattle.frontier.proofs.Laws.{First, any_some, any_none}
use Rattle.frontier.proofs.Counts.{count_le}
use Rattle.graph.specs.Edge.{Edge}
use Rattle.graph.specs.Index.{own, in_order, Fit, Own}
use Rattle.graph.proofs.Tests.{both, and_true}
use Rattle.graph.proofs.Lists.{at_set}
use Rattle.graph.proofs.Edges.{leaving_in, in_leaving}
use Rattle.graph.proofs.Order.{Sound, rules_accept, accept_rules, within}
use Rattle.graph.proofs.Arcs.{fit_arc, mem_part}
use Rattle.run.specs.Code.{bits, Marks}
use Rattle.run.proofs.States.{marks_set}
use Rattle.theory.proofs.Hops.{count_less}
use Rattle.affected.specs.Affected.{Named, marked, sweep, affected}
use Rattle.affected.proofs.Hunt.{same_marks, sweep_named, affected_length, affected_named, all_marked, closed_exact}
use Rattle.affected.proofs.Passes.{touches_as, sweep_taken, sweep_append, sweep_still, table_order_lem, first_pass}
use Rattle.hunt.specs.Code.{from_end, Hunting, Counterparts, Fresh, Touched, Shut, SweepDone, FirstSweep}
use Rattle.hunt.proofs.Bits.{bits_length, bits_all}

-- ---- the edges of an index

order_parts : (is : List ℕ) (u a j : ℕ) → in_order is u (a + suc j) ≡ in_order is u a ++ (own is (u + a) ++ in_order is (suc (u + a)) j)
unfolding in_order
order_parts is u zero j = rw (zero-add (suc j), add-zero u)
order_parts is u (suc a) j = let p : suc u + a ≡ u + suc a = omega arith in
    rw (suc-add a (suc j), order_parts is (suc u) a j, p) (sym (append_assoc (own is u) (in_order is (suc u) a) _))

order_mem : (is : List ℕ) (u k : ℕ) (e : Edge) → Memᴰ e (in_order is u k) → (v : ℕ) × (u ≤ v) × (v < u + k) × Memᴰ e (own is v)
unfolding in_order
order_mem is u zero e m = absurd (Memᴰ-not_nil m)
order_mem is u (suc k) e m = ⊎_elim (λ i. (u, omega arith, omega arith, i))
    (λ i. let z = order_mem is (suc u) k e i in let a = z.1 in let b = z.2 in (z.0, omega arith, omega arith, z.3)) (Memᴰ.append_cases (own is u) m)

own_edge : {n : ℕ} {is : List ℕ} → Fit n is → (u : ℕ) (e : Edge) → u < n → Memᴰ e (own is u) → (e.tail ≡ u) × (e.head < n)
own_edge {n} {is} f u e h m = let z = mem_part is u (get_or is u 0) (get_or is (u + 1) 0 - get_or is u 0) e m in
    rw (sym z.3) (refl, (fit_arc f u z.0 h z.1 (omega (arith, z.1, z.2))).1)

-- ---- a pass

pub record Sweeping (P : Property) (n s : ℕ) (vs is os : List ℕ) (i : ℕ) (bs gs bs' gs' : List ℕ) : Type 0 where
  pub hunting : Hunting n vs is os bs' gs'
  pub keeps : (t : ℕ) → marked (waiting_of bs) t ≡ true → marked (waiting_of bs') t ≡ true
  pub only : (k : ℕ) → marked (waiting_of gs') k ≡ true → (i ≤ k → ⊥) → Fresh n (waiting_of bs) (waiting_of bs') k
  pub swept : (es fs : List Edge) → Counterparts n es fs is os → Shut P n es fs s vs is (waiting_of bs) (waiting_of gs)
      → (sweep P es fs s vs (in_order is 0 (n - i)) (waiting_of bs') ≡ sweep P es fs s vs (in_order is 0 n) (waiting_of bs)) × Shut P n es fs s vs is (waiting_of bs') (waiting_of gs')

pub sweeping_start : {P : Property} {n s : ℕ} {vs is os bs gs : List ℕ} → Hunting n vs is os bs gs → Sweeping P n s vs is os 0 bs gs bs gs
sweeping_start {n = n} h = record { hunting = h; keeps = λ t q. q; only = λ k q l. absurd (l (omega arith)); swept = λ es fs f g. (rw (sub-zero n), g) }

with_marks : {n : ℕ} {vs is os bs gs bs' gs' : List ℕ} → Hunting n vs is os bs gs → Marks n bs' → Marks n gs' → Hunting n vs is os bs' gs'
with_marks h a b = record { words = h.words; index = h.index; room = h.room; marks = a; todo = b }

module _ {P : Property} {n s : ℕ} {vs is os bs gs bs' gs' : List ℕ} {i : ℕ} (at : Sweeping P n s vs is os i bs gs bs' gs') where
  -- vertices that are not to do change nothing
  still : (es fs : List Edge) → Shut P n es fs s vs is (waiting_of bs') (waiting_of gs') → (u j : ℕ) → u + j ≡ n - i
      → ((k : ℕ) → i ≤ k → k + u < n → marked (waiting_of gs') k ≡ false) → sweep P es fs s vs (in_order is u j) (waiting_of bs') ≡ waiting_of bs'
  still es fs h u j l f = sweep_still P es fs s vs (in_order is u j) (waiting_of bs') (λ e m. let o = order_mem is u j e m in
      let a = o.1 in let b = o.2 in h o.0 (omega arith) (f (from_end n o.0) (omega arith) (omega arith)) e o.3)

  pub sweeping_done : ((k : ℕ) → i ≤ k → marked (waiting_of gs') k ≡ false) → SweepDone P n s vs is os bs gs bs' gs'
  sweeping_done none = record {
    marks = at.hunting.marks;
    todo = at.hunting.todo;
    keeps = at.keeps;
    only = λ k q. at.only k q (λ l. true≢false (sym q ∙ none k l));
    swept = λ es fs f h. let z = at.swept es fs f h in (sym (still es fs z.1 0 (n - i) (zero-add (n - i)) (λ k l m. none k l)) ∙ z.0, z.1);
  }

  -- The next that is to do, number k, is taken out, and its edges are taken: those that touch have their heads marked. Another vertex that is not to do
  -- has no new mark, so that its edges touch no more than before, and no mark is taken away.
  module _ {u k : ℕ} {ks : List ℕ} (f : First (waiting_of gs') i k × (k < n)) (o : u ≡ from_end n k) (e : waiting_of ks ≡ set (waiting_of gs') k false) where
    pub sweeping_next : (u < length vs) × Hunting (length vs) vs is os bs' ks
    sweeping_next = rw at.hunting.words (omega (arith, f.1), with_marks at.hunting at.hunting.marks (marks_set n k gs' ks false f.1 e at.hunting.todo))

    module _ {bs'' gs'' : List ℕ} (t : Touched P n s vs is os u (marked (waiting_of bs') u) (get_or is u 0) (get_or is (u + 1) 0 - get_or is u 0) bs' ks bs'' gs'') where
      shut_turn : (es fs : List Edge) → Counterparts n es fs is os → Shut P n es fs s vs is (waiting_of bs') (waiting_of gs') → Shut P n es fs s vs is (waiting_of bs'') (waiting_of gs'')
      shut_turn es fs g h v b q x m w =
          let was = touches_as P es fs s vs (waiting_of bs'') (waiting_of bs') x
          (λ y. ⊎_elim (λ z. z) (λ z. absurd (true≢false (sym (rw (own_edge at.hunting.index v x b m).0 at z) ∙ q))) (t.grown.new x.tail y)) w in
          elim (ℕ_discrete v u) [
            | yes p ↦ rw (t.swept es fs g refl) (sweep_taken P es fs s vs (own is u) (waiting_of bs')
                (λ y j. omega (arith, (own_edge at.hunting.index u y (omega (arith, f.1)) j).1, at.hunting.marks.few, at.hunting.marks.bits)) x (rw p at m) was)
            | no d ↦ t.grown.keeps x.head (h v b (is_false _ (λ y. true≢false (sym (t.grown.due (from_end n v)
                (rw e (get_or-set_other (waiting_of gs') k (from_end n v) false false (λ p. d (omega (arith, f.1))) ∙ y))) ∙ q))) x m was)
          ]

      pub sweeping_turn : Sweeping P n s vs is os (k + 1) bs gs bs'' gs''
      sweeping_turn = record {
        hunting = with_marks at.hunting t.marks t.todo;
        keeps = λ v q. t.grown.keeps v (at.keeps v q);
        only = λ j q b. ⊎_elim (λ y. ⊎_elim (λ z. absurd (true≢false (sym (rw e at y) ∙ z.1)))
            (λ z. let on = sym z.1 ∙ rw e at y in let o = at.only j on (λ a. true≢false (sym on ∙ f.0.before j a (omega (arith, z.0)))) in (o.0, o.1, t.grown.keeps _ o.2))
            (at_set (waiting_of gs') k false j false f.0.within)) (λ y. (y.0, is_false _ (λ z. true≢false (sym (at.keeps _ z) ∙ y.1)), y.2)) (t.grown.only j q);
        swept = λ es fs g h.
            let z = at.swept es fs g h in
            let p : n - i ≡ u + suc (k - i) = omega (arith, f.0.from, f.1) in let r : n - (k + 1) ≡ u = omega arith in
            let none = still es fs z.1 (suc u) (k - i) (omega (arith, f.1)) (λ j a b. f.0.before j a (omega arith)) in
            let all = rw (p, order_parts is 0 u (k - i), zero-add u, sweep_append P es fs s vs (in_order is 0 u) _ _) at z.0 in
            (rw r (rw (sweep_append P es fs s vs (own is u) _ _, none, sym (t.swept es fs g refl)) at all), shut_turn es fs g z.1);
      }

-- ---- pass by pass

pub record Hunted (P : Property) (n s : ℕ) (vs is os bs gs bs' gs' : List ℕ) : Type 0 where
  pub hunting : Hunting n vs is os bs' gs'
  pub kept : (es fs : List Edge) → Own n is es → Counterparts n es fs is os → Named P es fs s vs (waiting_of bs) → Shut P n es fs s vs is (waiting_of bs) (waiting_of gs)
      → Named P es fs s vs (waiting_of bs') × Shut P n es fs s vs is (waiting_of bs') (waiting_of gs')

module _ {P : Property} {n s : ℕ} {vs is os bs gs bs' gs' : List ℕ} (at : Hunted P n s vs is os bs gs bs' gs') where
  module _ {bs'' gs'' : List ℕ} (d : SweepDone P n s vs is os bs' gs' bs'' gs'') where
    pub hunted_turn : Hunted P n s vs is os bs gs bs'' gs''
    hunted_turn = record {
      hunting = with_marks at.hunting d.marks d.todo;
      kept = λ es fs o f a b.
          let z = at.kept es fs o f a b in let y = d.swept es fs f z.1 in
          let old : (e : Edge) → Memᴰ e (in_order is 0 n) → Memᴰ e es = λ e m. let w = order_mem is 0 n e m in
          let c = w.2 in (leaving_in w.0 es e (rw (o w.0 (omega arith)) at w.3)).0 in
          (rw y.0 (sweep_named P es fs s vs (in_order is 0 n) old (waiting_of bs') z.0), y.1);
    }

    -- what is to do after a pass was marked in it: there are fewer vertices without a mark
    pub hunted_less : any_of (waiting_of gs') ≡ true
        → cond (any_of (waiting_of gs'')) (suc (capacity - count_of (waiting_of bs''))) 0 < cond (any_of (waiting_of gs')) (suc (capacity - count_of (waiting_of bs'))) 0
    hunted_less on = rw on (by_test (any_of (waiting_of gs''))
        (λ q. rw q (let (k, _, w) = any_some (waiting_of gs'') q in let f = d.only k w in
        let c = count_less (waiting_of bs') (waiting_of bs'') (from_end n k) (omega (arith, f.0, at.hunting.marks.few, at.hunting.marks.bits)) d.keeps f.1 f.2 in
        omega (arith, count_le (waiting_of bs''), d.marks.bits))) (λ q. rw q (omega arith)))

  -- where nothing is to do, marks that are shut are closed
  pub hunted_done : any_of (waiting_of gs') ≡ false → (es fs : List Edge) → ((e : Edge) → Memᴰ e es → (e.tail < n) × (e.head < n)) → Own n is es → Counterparts n es fs is os
      → Named P es fs s vs (waiting_of bs) → Shut P n es fs s vs is (waiting_of bs) (waiting_of gs) → bits n bs' ≡ affected P es fs s vs n
  hunted_done none es fs inside o f a b =
      let m = at.hunting.marks in let z = at.kept es fs o f a b in
      closed_exact P es fs s vs n (λ e i. (inside e i).1) (bits n bs') (bits_length n bs' m) (λ t q. z.0 t (sym (bits_all n bs' m t) ∙ q))
      (λ e i q. bits_all n bs' m e.head ∙ z.1 e.tail (inside e i).0 (any_none (waiting_of gs') none _) e (rw (o e.tail (inside e i).0) (in_leaving e.tail i refl))
      (touches_as P es fs s vs (bits n bs') (waiting_of bs') e (λ y. sym (bits_all n bs' m e.tail) ∙ y) q))

-- ---- the first pass

-- what keeps the rules of n vertices keeps those of more
sound_more : (n m : ℕ) (es : List Edge) → n ≤ m → Sound n es → Sound m es
sound_more n m [] l h = tt
sound_more n m (x ∷ es) l h =
    let (p, r) = both (ltb x.tail n) _ h.0 in
    let (q, w) = both (ltb x.head n) _ r in
    let more : (i : ℕ) → ltb i n ≡ true → ltb i m ≡ true = λ i y. lt-ltb i m (let z = ltb-true i n y in omega arith) in
    (and_true (more x.tail p) (and_true (more x.head q) w), h.1, sound_more n m es l h.2)

-- The pass's equation is over all 256 marks and the edges of the index, and an index has a table's edges in the table's order. By either number of vertices
-- the marks are the closure.
pub first_sweep : FirstSweep
first_sweep P n s vs is os bs gs bs' gs' es fs a o c none shut d done =
    let m = done.marks in
    let sound = rules_accept n es a in
    let more = sound_more n capacity es m.few sound in
    let all : waiting_of bs' ≡ affected P es fs s vs capacity =
    (done.swept es fs c shut).0 ∙ rw (table_order_lem n is es a o, none) ((first_pass P es fs s vs capacity (accept_rules capacity es more)).0 d) in
    same_marks (bits n bs') (affected P es fs s vs n) (bits_length n bs' m ∙ sym (affected_length P es fs s vs n)) (λ t. (
      λ q. all_marked P es fs s vs n (within n es sound).heads (affected_named P es fs s vs capacity t (rw all at (sym (bits_all n bs' m t) ∙ q))),
      λ q. bits_all n bs' m t ∙ rw all (all_marked P es fs s vs capacity (within capacity es more).heads (affected_named P es fs s vs n t q)),
    ))
