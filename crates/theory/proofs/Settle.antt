-- Runs: settled words are complete; handling, in any order, only betters words, keeps them sound and keeps the invariant that makes
-- them settled once nothing waits. Assumes nothing.
--
--   Settled P es ws          == no edge of es would better its head's word
--   Backed P es s t v        == v is a word that is no better than the value of some route from s to t, or the no-route word
--   Sound P es s ws          == each word is backed
--   Good P es s n rest ws bs == the invariant of runs, where the edges `rest` are still to come in the handling under way
--   Inv P es s n st          == the same between two handlings, of a state
--   Risen P ws st            == no word of st is worse than in ws
--   Sized n st               == n words
use Rattle.property.proofs.Basics.{◌≡◌, refl, sym, ap, ◌∙◌, ◌⊎◌, inl, inr, ⊎_elim, ◌≢◌, Bool, true, false, true≢false, List, [], ◌∷◌, foldl, Memᴰ, Memᴰ-head, Memᴰ-tail, Memᴰ-cases_cons, Memᴰ-not_nil, ℕ, zero, suc, ◌+◌, ◌≤◌, ◌<◌, ℕ_discrete, dec_lt, arith, get_or, set, length, length-set, get_or-set_same, get_or-set_other, set_out}
use Rattle.property.specs.Property.{M, Property}
use Rattle.property.specs.Laws.{Laws}
use Rattle.property.proofs.Tests.{is_true, is_false, by_test}
use Rattle.frontier.specs.Waiting.{any_of}
use Rattle.frontier.proofs.Laws.{any_none}
use Rattle.graph.specs.Edge.{Edge, leaving, range}
use Rattle.graph.specs.Route.{Route, here, step}
use Rattle.graph.proofs.Lists.{at_set, fold_keeps}
use Rattle.graph.proofs.Edges.{leaving_in, in_leaving}
use Rattle.graph.proofs.Order.{Within}
use Rattle.run.specs.Run.{State, one_taken, one_round, counted, word, waits, relaxable, store_if, relax, clear, handle, visit_if, visit, take_entry_if, take_entry, pass, round, settle}

-- ---- what is said of words and states

abbrev pub Settled : Property → List Edge → List ℕ → Type 0
Settled P es ws = (e : Edge) → Memᴰ e es → relaxable P ws e ≡ false

abbrev pub Risen : Property → List ℕ → State → Type 0
Risen P ws st = (t : ℕ) → P.better (word P ws t) (word P st.words t) ≡ false

abbrev pub Sized : ℕ → State → Type 0
Sized n st = length st.words ≡ n

module _ (P : Property) (es : List Edge) (s : ℕ) where
  abbrev pub Backed : ℕ → ℕ → Type 0
  Backed t v = ((u : ℕ) × Route P es s t u × (P.better v u ≡ false) × (v ≤ M)) ⊎ (v ≡ P.none)

  abbrev pub Sound : List ℕ → Type 0
  Sound ws = (t : ℕ) → Backed t (word P ws t)

  pub record Good (n : ℕ) (rest : List Edge) (ws : List ℕ) (bs : List Bool) : Type 0 where
    pub words_n : length ws ≡ n
    pub waiting_n : length bs ≡ n
    pub source : P.better P.start (word P ws s) ≡ false
    pub sound : Sound ws
    -- each edge that could better its head has a waiting tail, or is still to come
    pub pending : (e : Edge) → Memᴰ e es → relaxable P ws e ≡ true → (get_or bs e.tail false ≡ true) ⊎ Memᴰ e rest

  abbrev pub Inv : ℕ → State → Type 0
  Inv n st = Good n [] st.words st.waiting

-- ---- what clearing and storing keep, handling keeps; what handling any vertex and counting keep, runs keep

pub relaxes_keep : (P : Property) (Q : State → Type 0) (l : List Edge)
    → ((st : State) (o : Edge) → Memᴰ o l → relaxable P st.words o ≡ true → Q st → Q (store_if true P st o))
    → (st : State) → Q st → Q (foldl (relax P) st l)
unfolding relax store_if
relaxes_keep P Q [] f st q = q
relaxes_keep P Q (o ∷ l) f st q = relaxes_keep P Q l (λ a e m. f a e (Memᴰ-tail m)) (relax P st o)
    (by_test (relaxable P st.words o) (λ c. rw c (f st o (Memᴰ-head refl) c q)) (λ c. rw c q))

pub handle_keeps : (P : Property) (es : List Edge) (Q : State → Type 0) → ((st : State) (i : ℕ) → Q st → Q (clear st i))
    → ((st : State) (e : Edge) → Memᴰ e es → relaxable P st.words e ≡ true → Q st → Q (store_if true P st e))
    → (st : State) (i : ℕ) → Q st → Q (handle P es st i)
unfolding handle
handle_keeps P es Q clearing storing st i q = relaxes_keep P Q (leaving i es) (λ a e m. storing a e (leaving_in i es e m).0) (clear st i) (clearing st i q)

module _ (P : Property) (es : List Edge) (Q : State → Type 0) (handling : (st : State) (i : ℕ) → Q st → Q (handle P es st i)) where
  pub visit_keeps : (st : State) (i : ℕ) → Q st → Q (visit P es st i)
  unfolding visit visit_if
  visit_keeps st i q = by_test (waits st i) (λ c. rw c (handling st i q)) (λ c. rw c q)

  pub visits_keep : (vs : List ℕ) (st : State) → Q st → Q (foldl (visit P es) st vs)
  visits_keep vs st q = fold_keeps Q (visit P es) visit_keeps vs st q

  module _ (counting : (st : State) → Q st → Q (counted one_taken st)) where
    pub take_keeps : (st : State) (i : ℕ) → Q st → Q (take_entry P es st i)
    unfolding take_entry take_entry_if
    take_keeps st i q = by_test (waits st i) (λ c. rw c (handling (counted one_taken st) i (counting st q))) (λ c. rw c q)

    pub pass_keeps : (vs : List ℕ) (st : State) → Q st → Q (pass P es vs st)
    unfolding pass
    pass_keeps vs st q = fold_keeps Q (take_entry P es) take_keeps vs st q

  module _ (counting : (st : State) → Q st → Q (counted one_round st)) (n : ℕ) where
    pub round_keeps : (st : State) → Q st → Q (round P es n st)
    unfolding round
    round_keeps st q = visits_keep (range 0 n) (counted one_round st) (counting st q)

    pub settle_keeps : (k : ℕ) (st : State) → Q st → Q (settle P es n k st)
    unfolding settle
    settle_keeps zero st q = q
    settle_keeps (suc k) st q = by_test (any_of st.waiting) (λ c. rw (c, settle) (settle_keeps k (round P es n st) (round_keeps st q))) (λ c. rw (c, settle) q)

-- ---- lengths and rounds, of any state and with no laws

module _ (P : Property) (es : List Edge) where
  handle_sized : (n : ℕ) (st : State) (i : ℕ) → Sized n st → Sized n (handle P es st i)
  unfolding clear store_if
  handle_sized n = handle_keeps P es (Sized n) (λ st i h. h)
      (λ st e m c h. length-set st.words e.head (P.along (word P st.words e.tail) e.weight) ∙ h)

  pub settle_sized : (n k : ℕ) (st : State) → Sized n st → Sized n (settle P es n k st)
  settle_sized n k st h = settle_keeps P es (Sized n) (handle_sized n) (λ a k. k) n k st h

  -- handling a vertex counts no round
  handle_rounds : (r : ℕ) (st : State) (i : ℕ) → st.tally.rounds ≡ r → (handle P es st i).tally.rounds ≡ r
  unfolding clear store_if
  handle_rounds r = handle_keeps P es (λ st. st.tally.rounds ≡ r) (λ st i h. h) (λ st e m c h. h)

  pub pass_rounds : (vs : List ℕ) (st : State) → (pass P es vs st).tally.rounds ≡ st.tally.rounds
  pass_rounds vs st = pass_keeps P es (λ a. a.tally.rounds ≡ st.tally.rounds) (handle_rounds st.tally.rounds) (λ a k. k) vs st refl

  round_rounds : (n : ℕ) (st : State) → (round P es n st).tally.rounds ≡ suc st.tally.rounds
  unfolding round
  round_rounds n st =
      let r = suc st.tally.rounds in
      visits_keep P es (λ a. a.tally.rounds ≡ r) (handle_rounds r) (range 0 n) (counted one_round st) refl

  pub settle_idle : (n k : ℕ) (st : State) → any_of st.waiting ≡ false → settle P es n k st ≡ st
  unfolding settle
  settle_idle n zero st h = refl
  settle_idle n (suc k) st h = rw (h, settle)

  pub settle_more : (n k : ℕ) (st : State) → any_of st.waiting ≡ true → settle P es n (suc k) st ≡ settle P es n k (round P es n st)
  unfolding settle
  settle_more n k st h = rw (h, settle)

  pub settle_rounds : (n k : ℕ) (st : State) → (settle P es n k st).tally.rounds ≤ st.tally.rounds + k
  unfolding settle
  settle_rounds n zero st = omega arith
  settle_rounds n (suc k) st = by_test (any_of st.waiting)
      (λ h. rw (settle_more n k st h) (let z = settle_rounds n k (round P es n st) in let e = round_rounds n st in omega arith))
      (λ h. rw (settle_idle n (suc k) st h) (omega arith))

module _ {P : Property} (L : Laws P) where
  open P use {start, none, along, better}

  -- Settled is complete: if the source's word is no worse than its value, and no edge would better its head's word, no route to t is
  -- better than t's word. By induction along the route: what it had at the edge's tail is no better than the tail's word; so after the
  -- edge it is no better than the tail's word gone along it, and that is no better than the head's word.
  pub settled_complete : (es : List Edge) (s : ℕ) (ws : List ℕ) → better start (word P ws s) ≡ false → Settled P es ws
      → {t u : ℕ} → Route P es s t u → better u (word P ws t) ≡ false
  settled_complete es s ws h settled here = h
  settled_complete es s ws h settled (step {e = e} r m) =
      L.transitive _ _ _ (settled e m) (L.along_monotone _ _ e.weight (settled_complete es s ws h settled r))

  -- ---- backed words

  pub backed_fits : {es : List Edge} {s t v : ℕ} → Backed P es s t v → v ≤ M
  backed_fits (inl (u, r, h, f)) = f
  backed_fits (inr e) = rw e L.none_fits

  pub route_backed : {es : List Edge} {s t v : ℕ} → Route P es s t v → v ≤ M → Backed P es s t v
  route_backed {v = v} r f = inl (v, r, L.irreflexive v, f)

  -- ---- one store

  better_through : (a b c : ℕ) → better a b ≡ true → better c b ≡ false → better a c ≡ true
  better_through a b c h k = is_true (better a c) (λ e. true≢false (sym h ∙ L.transitive b c a k e))

  module _ (ws : List ℕ) (o : Edge) (inside : o.head < length ws) where
    abbrev fresh : ℕ
    fresh = along (word P ws o.tail) o.weight

    abbrev stored : List ℕ
    stored = set ws o.head fresh

    -- a store keeps words sound: the route that backs the tail goes on along the edge, and no route leads on to no route
    store_sound : (es : List Edge) (s : ℕ) → Memᴰ o es → o.weight ≤ M → Sound P es s ws → Sound P es s stored
    store_sound es s m w sound t =
        ⊎_elim (λ c. rw (c.1, c.0) (⊎_elim
        (λ (u, r, h, f). inl (along u o.weight, step r m, L.along_monotone _ _ _ h, L.along_fits _ _ f w))
        (λ e. inr (ap (λ x. along x o.weight) e ∙ L.along_none o.weight w)) (sound o.tail)))
        (λ c. rw c.1 (sound t)) (at_set ws o.head fresh t none inside)

    module _ (c : relaxable P ws o ≡ true) where
      pub store_betters : (t : ℕ) → better (word P ws t) (word P stored t) ≡ false
      store_betters t =
          ⊎_elim (λ q. rw (q.1, q.0) (L.asymmetric _ _ c)) (λ q. rw q.1 (L.irreflexive _)) (at_set ws o.head fresh t none inside)

      -- what could better its head after the store could before, unless its tail was stored; and it is another edge
      store_relaxable : (e : Edge) → e.tail ≢ o.head → relaxable P stored e ≡ true → (relaxable P ws e ≡ true) × (e ≢ o)
      store_relaxable e n h =
          let k : word P stored e.tail ≡ word P ws e.tail = get_or-set_other ws o.head e.tail _ none n in
          let j : better (along (word P ws e.tail) e.weight) (word P stored e.head) ≡ true = rw (k, relaxable) at h in
          (better_through _ _ _ j (store_betters e.head), λ p. true≢false (sym j ∙ rw (p, get_or-set_same ws o.head fresh none inside) (L.irreflexive _)))

  -- ---- words only get better

  module _ (es : List Edge) where
    pub handle_rises : (ws : List ℕ) (st : State) (i : ℕ) → Risen P ws st → Risen P ws (handle P es st i)
    unfolding clear store_if
    handle_rises ws = handle_keeps P es (Risen P ws) (λ st i g. g) (λ st o m c g t. elim (dec_lt o.head (length st.words)) [
      | yes h ↦ L.transitive _ _ _ (store_betters st.words o h c t) (g t)
      | no d ↦ rw (set_out st.words o.head (along (word P st.words o.tail) o.weight) (omega arith)) (g t)
    ])

    pub settle_rises : (n k : ℕ) (st : State) → Risen P st.words (settle P es n k st)
    settle_rises n k st = settle_keeps P es (Risen P st.words) (handle_rises st.words) (λ a k. k) n k st (λ t. L.irreflexive _)

  -- ---- handling keeps the invariant

  module _ (es : List Edge) (s n : ℕ) (inside : Within n es) where
    relax_good : (o : Edge) (rest : List Edge) → Memᴰ o es → (st : State)
        → Good P es s n (o ∷ rest) st.words st.waiting → Good P es s n rest (relax P st o).words (relax P st o).waiting
    unfolding relax store_if
    relax_good o rest m st g = by_test (relaxable P st.words o)
        (λ e. let b : o.head < length st.words = omega (arith, inside.heads o m) in
        let b' : o.head < length st.waiting = omega (arith, inside.heads o m) in
        rw e (record {
          words_n = length-set st.words _ _ ∙ g.words_n;
          waiting_n = length-set st.waiting _ _ ∙ g.waiting_n;
          source = L.transitive _ _ _ (store_betters st.words o b e s) g.source;
          sound = store_sound st.words o b es s m (inside.weights o m) g.sound;
          pending = λ x k c. ⊎_elim (λ q. inl q.1) (λ q.
              let z = store_relaxable st.words o b e x q.0 c in
              ⊎_elim (λ w. inl (q.1 ∙ w)) (λ l. inr (⊎_elim (λ p. absurd (z.1 p)) (λ p. p) (Memᴰ-cases_cons l))) (g.pending x k z.0))
              (at_set st.waiting o.head true x.tail false b');
        }))
        (λ e. rw e (record {
          words_n = g.words_n;
          waiting_n = g.waiting_n;
          source = g.source;
          sound = g.sound;
          pending = λ x k c. ⊎_elim inl (λ l. ⊎_elim (λ q. absurd (true≢false (sym (rw q at c) ∙ e))) inr (Memᴰ-cases_cons l)) (g.pending x k c);
        }))

    relaxes_good : (rest : List Edge) → ((e : Edge) → Memᴰ e rest → Memᴰ e es) → (st : State)
        → Good P es s n rest st.words st.waiting → Inv P es s n (foldl (relax P) st rest)
    relaxes_good [] sub st g = g
    relaxes_good (o ∷ rest) sub st g =
        relaxes_good rest (λ e k. sub e (Memᴰ-tail k)) (relax P st o) (relax_good o rest (sub o (Memᴰ-head refl)) st g)

    -- Handling i clears its bit, and then all its edges are still to come. Going along one of them either stores nothing, and then it
    -- could not better its head; or it stores its head, whose bit is set. A store makes other edges able to better something only
    -- where they leave the stored vertex, and that waits; to the others it only makes their heads' words better. At the end no edge
    -- is still to come. Nothing is said of which vertex is handled when: so any order of handling keeps the invariant.
    pub handle_good : (st : State) (i : ℕ) → Inv P es s n st → Inv P es s n (handle P es st i)
    unfolding handle clear
    handle_good st i g = relaxes_good (leaving i es) (λ e k. (leaving_in i es e k).0) (clear st i) (record {
      words_n = g.words_n;
      waiting_n = length-set st.waiting _ _ ∙ g.waiting_n;
      source = g.source;
      sound = g.sound;
      pending = λ x k c. ⊎_elim
          (λ w. elim (ℕ_discrete x.tail i) [ yes p ↦ inr (in_leaving i k p) | no d ↦ inl (get_or-set_other st.waiting i x.tail false false d ∙ w) ])
          (λ l. absurd (Memᴰ-not_nil l)) (g.pending x k c);
    })

    pub pass_good : (vs : List ℕ) (st : State) → Inv P es s n st → Inv P es s n (pass P es vs st)
    pass_good vs st g = pass_keeps P es (Inv P es s n) handle_good (λ a k. k) vs st g

    pub settle_good : (k : ℕ) (st : State) → Inv P es s n st → Inv P es s n (settle P es n k st)
    settle_good k st g = settle_keeps P es (Inv P es s n) handle_good (λ a k. k) n k st g

    -- ---- where nothing waits

    -- an edge whose tail does not wait could not better its head
    pub inv_idle : (st : State) → Inv P es s n st → (e : Edge) → Memᴰ e es → waits st e.tail ≡ false → relaxable P st.words e ≡ false
    inv_idle st g e m w = is_false _ (λ c. ⊎_elim (λ z. true≢false (sym z ∙ w)) (λ l. Memᴰ-not_nil l) (g.pending e m c))

    pub settled : (st : State) → Inv P es s n st → any_of st.waiting ≡ false → Settled P es st.words
    settled st g q e m = inv_idle st g e m (any_none st.waiting q e.tail)
