-- Rounds as the code makes them: from one waiting vertex to the next. Assumes nothing.
use Rattle.property.proofs.Basics.{◌≡◌, sym, ap, ◌∙◌, Bool, true, false, List, foldl, ℕ, zero, suc, ◌+◌, ◌-◌, ◌≤◌, ◌<◌, add-zero, zero-add, suc-add, add-one, arith, get_or, leb, leb-true, leb-false}
use Rattle.property.proofs.Tests.{by_test}
use Rattle.property.specs.Property.{Property}
use Rattle.frontier.specs.Waiting.{waiting_of, any_of}
use Rattle.frontier.proofs.Laws.{First}
use Rattle.graph.specs.Edge.{Edge, range}
use Rattle.run.specs.declared.Tally.{Tally}
use Rattle.run.specs.Code.{Marks, Ran, state}
use Rattle.run.specs.Run.{State, waits, handle, visit_if, visit, round, settle}
use Rattle.graph.proofs.Lists.{fold_turn, fold_done}
use Rattle.run.proofs.Folds.{range_more, range_none}
use Rattle.run.proofs.States.{bits_at, marks_within}

-- ---- visits

module _ (P : Property) (es : List Edge) where
  visit_waiting : (st : State) (i : ℕ) → waits st i ≡ true → visit P es st i ≡ handle P es st i
  unfolding visit visit_if
  visit_waiting st i e = rw e

  visit_idle : (st : State) (i : ℕ) → waits st i ≡ false → visit P es st i ≡ st
  unfolding visit visit_if
  visit_idle st i e = rw e

  -- the k vertices from i on do not wait, so that their visits change nothing
  skip : (st : State) (k i m : ℕ) → ((j : ℕ) → i ≤ j → j < i + k → waits st j ≡ false)
      → foldl (visit P es) st (range i (k + m)) ≡ foldl (visit P es) st (range (i + k) m)
  unfolding range
  skip st zero i m f = rw (zero-add, add-zero)
  skip st (suc k) i m f =
      let e : suc i + k ≡ i + suc k = omega arith in
      ap (λ (x : ℕ). foldl (visit P es) st (range i x)) (suc-add k m)
      ∙ ap (λ (s : State). foldl (visit P es) s (range (suc i) (k + m))) (visit_idle st i (f i (omega arith) (omega arith)))
      ∙ skip st k (suc i) m (λ j a b. f j (omega arith) (omega arith))
      ∙ ap (λ (x : ℕ). foldl (visit P es) st (range x m)) e

  -- the same up to a vertex v, of those below n
  visit_skip : (st : State) (i v n : ℕ) → i ≤ v → v ≤ n → ((j : ℕ) → i ≤ j → j < v → waits st j ≡ false)
      → foldl (visit P es) st (range i (n - i)) ≡ foldl (visit P es) st (range v (n - v))
  visit_skip st i v n a b f =
      let p : n - i ≡ (v - i) + (n - v) = omega arith in
      let q : i + (v - i) ≡ v = omega arith in
      ap (λ (k : ℕ). foldl (visit P es) st (range i k)) p
      ∙ skip st (v - i) i (n - v) (λ j x y. f j x (omega arith))
      ∙ ap (λ (k : ℕ). foldl (visit P es) st (range k (n - v))) q

  module _ (st z : State) (i n : ℕ) (left : foldl (visit P es) st (range i (n - i)) ≡ z) where
    -- v is the next that waits, and st' the state after it was handled
    visit_next : (v : ℕ) (st' : State) → i ≤ v → v < n → ((j : ℕ) → i ≤ j → j < v → waits st j ≡ false) → waits st v ≡ true
        → st' ≡ handle P es st v → foldl (visit P es) st' (range (v + 1) (n - (v + 1))) ≡ z
    visit_next v st' a b f w e =
        fold_turn (visit P es) v (range_more v n b)
        (e ∙ sym (visit_waiting st v w)) (sym (visit_skip st i v n a (omega arith) f) ∙ left)

    -- none of those left waits
    visit_none : ((j : ℕ) → i ≤ j → j < n → waits st j ≡ false) → st ≡ z
    visit_none f = by_test (leb i n)
        (λ q. fold_done (visit P es) (range_none n n (omega arith)) (sym (visit_skip st i n n (leb-true i n q) (omega arith) f) ∙ left))
        (λ q. let l = leb-false i n q in fold_done (visit P es) (range_none i n (omega arith)) left)

-- ---- a turn of a round, by the waiting bits

module _ (P : Property) (es : List Edge) (n i : ℕ) (ws bs : List ℕ) (t : Tally) (z : State) (left : foldl (visit P es) (state n ws bs t) (range i (n - i)) ≡ z) where
  -- the next that waits, v, was handled
  pub round_next : (v : ℕ) (st : State) → Marks n bs → First (waiting_of bs) i v → st ≡ handle P es (state n ws bs t) v
      → foldl (visit P es) st (range (v + 1) (n - (v + 1))) ≡ z
  round_next v st h f e =
      let l = marks_within n bs v h f.waits in
      visit_next P es (state n ws bs t) z i n left v st f.from l (λ j a b. bits_at n bs j (omega arith) ∙ f.before j a b)
      (bits_at n bs v l ∙ f.waits) e

  -- none waits any more
  pub round_none : ((k : ℕ) → i ≤ k → get_or (waiting_of bs) k false ≡ false) → state n ws bs t ≡ z
  round_none f = visit_none P es (state n ws bs t) z i n left (λ j a b. bits_at n bs j b ∙ f j a)

  -- none is left
  pub round_ends : n ≤ i → state n ws bs t ≡ z
  round_ends h = visit_none P es (state n ws bs t) z i n left (λ j a b. absurd (omega arith))

-- a round begins, as the code counts it
abbrev begun : Tally → Tally
begun t = record { taken = t.taken; rounds = t.rounds + 1; stores = t.stores }

pub round_begins : (P : Property) (es : List Edge) (n : ℕ) (ws bs : List ℕ) (t : Tally)
    → foldl (visit P es) (state n ws bs (begun t)) (range 0 n) ≡ round P es n (state n ws bs t)
unfolding round
round_begins P es n ws bs t = rw add-one

pub ran_round : {n : ℕ} {ws bs : List ℕ} {r : Tally} {a c C : ℕ} (t : Tally) → Ran n ws bs (begun t) r a 0 c → c ≤ C → Ran n ws bs t r a 1 C
ran_round t f h = record { sized = f.sized; taken = omega arith; rounds = omega arith; stores = omega arith }

-- ---- rounds, of which n - k are left

module _ (P : Property) (es : List Edge) (n k : ℕ) (st : State) where
  -- one round, if any waits, and the rounds that are then left
  abbrev next : Bool → State
  next b = elim b [ true ↦ settle P es n (n - (k + 1)) (round P es n st) | false ↦ st ]

  pub settle_more : (st' : State) → k < n → any_of st.waiting ≡ true → st' ≡ round P es n st
      → settle P es n (n - k) st ≡ settle P es n (n - (k + 1)) st'
  unfolding settle
  settle_more st' h e q =
      let f : n - k ≡ suc (n - (k + 1)) = omega arith in
      rw (f, q) (ap next e)

  pub settle_stop : k < n → any_of st.waiting ≡ false → settle P es n (n - k) st ≡ st
  unfolding settle
  settle_stop h e =
      let f : n - k ≡ suc (n - (k + 1)) = omega arith in
      rw f (ap next e)

  pub settle_none : n ≤ k → settle P es n (n - k) st ≡ st
  unfolding settle
  settle_none h =
      let f : n - k ≡ 0 = omega arith in
      rw f
