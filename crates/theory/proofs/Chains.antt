-- n rounds are enough, whatever the words and whoever waits: each store is followed back to the one that caused it. Assumes nothing.
--
--   Chain es n v ms      == a chain of stores that ends in v, each caused by the one before it along an edge; ms marks its vertices
--   Caused P es n ws k v == a chain of more than k vertices ends in v, and no word of it is worse than v's
--   Deep k i st          == after k rounds and the visits below i of one more: each vertex that waits has such a chain, of more than k + 1
--                            vertices, or of more than k where its visit is still to come
--   Going k i st          == the same while i is handled, which has its chain of more than k
use Rattle.property.proofs.Basics.{◌≡◌, refl, sym, ◌∙◌, ◌⊎◌, inl, inr, ⊎_elim, ◌≢◌, Bool, true, false, true≢false, false≢true, List, foldl, Memᴰ, ℕ, zero, suc, ◌+◌, ◌≤◌, ◌<◌, ℕ_discrete, dec_lt, arith, get_or, set, length, replicate, get_or-eq_default, length-set, length-replicate, get_or-set_same, get_or-set_other, set_out}
use Rattle.property.specs.Property.{M, Property}
use Rattle.property.specs.Laws.{Laws}
use Rattle.property.proofs.Tests.{is_false, by_test}
use Rattle.property.proofs.Instances.{property_laws}
use Rattle.frontier.specs.Waiting.{any_of, count_of}
use Rattle.frontier.proofs.Counts.{count_le}
use Rattle.frontier.proofs.Laws.{any_some, count_insert}
use Rattle.graph.specs.Edge.{Edge, leaving, range}
use Rattle.graph.proofs.Lists.{at_set, replicate_at, get_or_within}
use Rattle.graph.proofs.Edges.{leaving_in}
use Rattle.graph.proofs.Order.{Within}
use Rattle.run.specs.Run.{State, one_round, counted, word, waits, relaxable, store_if, clear, handle, visit_if, visit, pass, round, settle}
use Rattle.theory.specs.Rest.{FitWords, NothingWaits, NothingWaitsOn, AllRounds}
use Rattle.theory.proofs.Settle.{relaxes_keep, handle_keeps, store_betters, pass_keeps, settle_keeps, settle_idle, settle_more}
use Rattle.theory.proofs.Rounds.{settle_all}

-- ---- chains

pub data Chain (es : List Edge) (n : ℕ) : ℕ → List Bool → Type 0 where
  -- a vertex alone, which waits as the rounds begin
  first : {v : ℕ} → v < n → Chain es n v (set (replicate n false) v true)
  -- the handling of an edge's tail stored its head, which was not in the tail's chain
  caused : {e : Edge} {ms : List Bool} → Memᴰ e es → Chain es n e.tail ms → get_or ms e.head false ≡ false
      → Chain es n e.head (set ms e.head true)

pub chain_length : {es : List Edge} {n v : ℕ} {ms : List Bool} → Chain es n v ms → length ms ≡ n
chain_length {n = n} (first {v = v} h) = length-set (replicate n false) v true ∙ length-replicate n false
chain_length (caused {e = e} {ms = ms} m c a) = length-set ms e.head true ∙ chain_length c

pub record Caused (P : Property) (es : List Edge) (n : ℕ) (ws : List ℕ) (k v : ℕ) : Type 0 where
  pub marks : List Bool
  pub chain : Chain es n v marks
  pub behind : (x : ℕ) → get_or marks x false ≡ true → P.better (word P ws v) (word P ws x) ≡ false
  pub long : k < count_of marks

-- ---- a bit that was cleared

clear_same : (l : List Bool) (i : ℕ) → get_or (set l i false) i false ≡ false
clear_same l i = elim (dec_lt i (length l)) [
  | yes h ↦ get_or-set_same l i false false h
  | no d ↦ rw (set_out l i false (omega arith)) (get_or-eq_default l false (omega arith))
]

module _ {P : Property} (L : Laws P) (es : List Edge) (n : ℕ) (inside : Within n es) where
  open P use {none, along, better}

  -- ---- words of 32 bits

  word_fits : (st : State) → FitWords n st → (t : ℕ) → word P st.words t ≤ M
  word_fits st g t = let z = g.words in elim (dec_lt t n) [
    | yes h ↦ rw (get_or_within st.words t none 0 (omega arith)) (g.fits t h)
    | no d ↦ rw (get_or-eq_default st.words none {n = t} (omega arith)) L.none_fits
  ]

  clear_words : (st : State) (i : ℕ) → FitWords n st → FitWords n (clear st i)
  unfolding clear
  clear_words st i g = record { words = g.words; waiting = length-set st.waiting i false ∙ g.waiting; fits = g.fits }

  store_words : (st : State) (o : Edge) → Memᴰ o es → FitWords n st → FitWords n (store_if true P st o)
  unfolding store_if
  store_words st o m g =
      let b : o.head < length st.words = let z = g.words in omega (arith, inside.heads o m) in
      record {
        words = length-set st.words o.head _ ∙ g.words;
        waiting = length-set st.waiting o.head true ∙ g.waiting;
        fits = λ t h. ⊎_elim (λ c. rw c.1 (L.along_fits _ _ (word_fits st g o.tail) (inside.weights o m))) (λ c. rw c.1 (g.fits t h))
            (at_set st.words o.head (along (word P st.words o.tail) o.weight) t 0 b);
      }

  handle_words : (st : State) (i : ℕ) → FitWords n st → FitWords n (handle P es st i)
  handle_words = handle_keeps P es (FitWords n) clear_words (λ a o m c. store_words a o m)

  -- a schedule leaves words of 32 bits
  pub pass_words : (vs : List ℕ) (st : State) → FitWords n st → FitWords n (pass P es vs st)
  pass_words vs st g = pass_keeps P es (FitWords n) handle_words (λ a q. record { words = q.words; waiting = q.waiting; fits = q.fits }) vs st g

  -- .. and so do rounds
  pub settle_words : (k : ℕ) (st : State) → FitWords n st → FitWords n (settle P es n k st)
  settle_words k st g = settle_keeps P es (FitWords n) handle_words (λ a q. record { words = q.words; waiting = q.waiting; fits = q.fits }) n k st g

  -- ---- one store

  module _ (ws : List ℕ) (o : Edge) (m : Memᴰ o es) (b : o.head < length ws) (fits : word P ws o.tail ≤ M) (c : relaxable P ws o ≡ true) where
    abbrev fresh : ℕ
    fresh = along (word P ws o.tail) o.weight

    abbrev stored : List ℕ
    stored = set ws o.head fresh

    -- a vertex whose word is no worse than the tail's is not the head: what the tail's word gives along the edge is no better than either
    store_apart : (x : ℕ) → better (word P ws o.tail) (word P ws x) ≡ false → x ≢ o.head
    store_apart x h p = true≢false (sym c ∙ L.transitive _ _ _ (rw p at h) (L.along_no_better _ o.weight fits))

    -- The head is not in the tail's chain: the words there are no worse than the tail's. So the tail's chain with the head is a chain,
    -- longer by one; and its words are no worse than the head's new one, which is no better than the tail's.
    store_caused : {k : ℕ} → Caused P es n ws k o.tail → Caused P es n stored (suc k) o.head
    store_caused {k = k} d =
        let l : o.head < length d.marks = let z = chain_length d.chain in omega (arith, inside.heads o m) in
        let a : get_or d.marks o.head false ≡ false = is_false _ (λ e. store_apart o.head (d.behind o.head e) refl) in
        record {
          marks = set d.marks o.head true;
          chain = caused m d.chain a;
          behind = λ x q. ⊎_elim (λ z. rw z.0 (L.irreflexive _))
              (λ z. rw (get_or-set_same ws o.head fresh none b, get_or-set_other ws o.head x fresh none z.0)
              (L.transitive _ _ _ (d.behind x (sym z.1 ∙ q)) (L.along_no_better _ o.weight fits)))
              (at_set d.marks o.head true x false l);
          long = let z = d.long in omega (arith, count_insert d.marks o.head l a);
        }

    -- any other vertex keeps its word and its chain, whose words are as before or better
    store_others : {k v : ℕ} → v ≢ o.head → Caused P es n ws k v → Caused P es n stored k v
    store_others {v = v} p d = record {
      marks = d.marks;
      chain = d.chain;
      behind = λ x q. rw (get_or-set_other ws o.head v fresh none p) (L.transitive _ _ _ (store_betters L ws o b c x) (d.behind x q));
      long = d.long;
    }

  -- ---- one round

  pub record Deep (k i : ℕ) (st : State) : Type 0 where
    pub sized : FitWords n st
    pub each : (v : ℕ) → waits st v ≡ true → Caused P es n st.words (suc k) v ⊎ ((i ≤ v) × Caused P es n st.words k v)

  pub record Going (k i : ℕ) (st : State) : Type 0 where
    pub deep : Deep k (suc i) st
    pub own : Caused P es n st.words k i

  -- a store while i is handled: its head has i's chain and itself, and is not i; the others keep theirs
  store_going : (k i : ℕ) (st : State) (o : Edge) → Memᴰ o es → o.tail ≡ i → relaxable P st.words o ≡ true
      → Going k i st → Going k i (store_if true P st o)
  unfolding store_if
  store_going k i st o m p c g =
      let b : o.head < length st.words = let z = g.deep.sized.words in omega (arith, inside.heads o m) in
      let b' : o.head < length st.waiting = let z = g.deep.sized.waiting in omega (arith, inside.heads o m) in
      let fits = word_fits st g.deep.sized o.tail in
      let tail : Caused P es n st.words k o.tail = rw p g.own in
      record {
        deep = record {
          sized = store_words st o m g.deep.sized;
          each = λ v w. ⊎_elim (λ z. inl (rw z.0 (store_caused st.words o m b fits c tail)))
              (λ z. ⊎_elim (λ d. inl (store_others st.words o m b fits c z.0 d)) (λ d. inr (d.0, store_others st.words o m b fits c z.0 d.1)) (g.deep.each v (sym z.1 ∙ w)))
              (at_set st.waiting o.head true v false b');
        };
        own = store_others st.words o m b fits c (store_apart st.words o m b fits c i (rw p (L.irreflexive _))) g.own;
      }

  -- where i does not wait, its visit is over
  deep_past : (k i : ℕ) (st : State) → waits st i ≡ false → Deep k i st → Deep k (suc i) st
  deep_past k i st q g = record {
    sized = g.sized;
    each = λ v w. ⊎_elim inl (λ d. inr (elim (ℕ_discrete v i) [ yes p ↦ absurd (true≢false (sym w ∙ rw p q)) | no e ↦ let z = d.0 in omega arith ], d.1)) (g.each v w);
  }

  deep_clear : (k i : ℕ) (st : State) → Deep k i st → Deep k i (clear st i)
  unfolding clear
  deep_clear k i st g = record {
    sized = clear_words st i g.sized;
    each = λ v w. g.each v (elim (ℕ_discrete v i) [
      | yes p ↦ absurd (true≢false (sym w ∙ rw p (clear_same st.waiting i)))
      | no d ↦ sym (get_or-set_other st.waiting i v false false d) ∙ w
    ]);
  }

  visit_deep : (k i : ℕ) (st : State) → Deep k i st → Deep k (suc i) (visit P es st i)
  unfolding visit visit_if handle clear
  visit_deep k i st g = by_test (waits st i)
      (λ q. let own : Caused P es n st.words k i = ⊎_elim (λ d. record { marks = d.marks; chain = d.chain; behind = d.behind; long = let z = d.long in omega arith }) (λ d. d.1) (g.each i q) in
      rw q (relaxes_keep P (Going k i) (leaving i es) (λ a o m c z. store_going k i a o (leaving_in i es o m).0 (leaving_in i es o m).1 c z) (clear st i)
      (record { deep = deep_past k i (clear st i) (clear_same st.waiting i) (deep_clear k i st g); own = own })).deep)
      (λ q. rw q (deep_past k i st q g))

  visits_deep : (k i m : ℕ) (st : State) → Deep k i st → Deep k (i + m) (foldl (visit P es) st (range i m))
  unfolding range
  visits_deep k i zero st g = let e : i + 0 ≡ i = omega arith in rw e g
  visits_deep k i (suc m) st g = let e : i + suc m ≡ suc i + m = omega arith in rw e (visits_deep k (suc i) m (visit P es st i) (visit_deep k i st g))

  -- a vertex that waits is one of the n
  waits_below : (st : State) → FitWords n st → (v : ℕ) → waits st v ≡ true → v < n
  waits_below st g v w = let z = g.waiting in elim (dec_lt v n) [
    | yes h ↦ h
    | no d ↦ absurd (true≢false (sym w ∙ get_or-eq_default st.waiting false {n = v} (omega arith)))
  ]

  -- A round visits the vertices in turn. One that waits when its turn comes has a chain of more than k vertices; each head that its
  -- handling stores gets that chain and itself, and i is not stored meanwhile. After the last visit no turn is still to come.
  round_deep : (k : ℕ) (st : State) → Deep k 0 st → Deep (suc k) 0 (round P es n st)
  unfolding round
  round_deep k st g =
      let z = visits_deep k 0 n (counted one_round st) (record { sized = record { words = g.sized.words; waiting = g.sized.waiting; fits = g.sized.fits }; each = g.each }) in
      record {
        sized = z.sized;
        each = λ v w. inr (omega arith, ⊎_elim (λ d. d) (λ d. absurd (let l = d.0 in omega (arith, waits_below (round P es n st) z.sized v w))) (z.each v w));
      }

  -- ---- n rounds

  -- every vertex is a chain of one
  start_deep : (st : State) → FitWords n st → Deep 0 0 st
  start_deep st g = record {
    sized = g;
    each = λ v w.
        let h = waits_below st g v w in
        let l : v < length (replicate n false) = rw length-replicate h in
        inr (
          omega arith,
          record {
            marks = set (replicate n false) v true;
            chain = first h;
            behind = λ x q. ⊎_elim (λ z. rw z.0 (L.irreflexive _)) (λ z. absurd (false≢true (sym (replicate_at n x false) ∙ sym z.1 ∙ q)))
                (at_set (replicate n false) v true x false l);
            long = omega (arith, count_insert (replicate n false) v l (replicate_at n v false));
          },
        );
  }

  -- rounds that did not come to rest were all run
  settle_deep : (j k : ℕ) (st : State) → Deep k 0 st → any_of (settle P es n j st).waiting ≡ true → Deep (k + j) 0 (settle P es n j st)
  unfolding settle
  settle_deep zero k st g h = let e : k + 0 ≡ k = omega arith in rw e g
  settle_deep (suc j) k st g h = by_test (any_of st.waiting)
      (λ q. let e : k + suc j ≡ suc k + j = omega arith in
      rw (e, settle_more P es n j st q) (settle_deep j (suc k) (round P es n st) (round_deep k st g) (rw (settle_more P es n j st q) at h)))
      (λ q. absurd (true≢false (sym h ∙ rw (settle_idle P es n (suc j) st q) q)))

  -- Follow each store back to the handling that caused it, and that to the store by which its vertex waited. In such a chain words get no
  -- better from one vertex to the next, as going along never betters, and a store only betters the word of a vertex that is not in the
  -- chain. So no vertex stands twice in it. What still waits after n rounds would be the end of a chain of more than n vertices.
  pub settle_rests : (st : State) → FitWords n st → any_of (settle P es n n st).waiting ≡ false
  settle_rests st g = is_false _ (λ q.
      let (v, l, w) = any_some (settle P es n n st).waiting q in
      ⊎_elim (no_more (omega arith)) (λ d. no_more (omega arith) d.1) ((settle_deep n 0 st (start_deep st g) q).each v w))
    where
      no_more : {k v : ℕ} → n ≤ k → Caused P es n (settle P es n n st).words k v → ⊥
      no_more h d = let a = d.long in omega (arith, count_le d.marks, chain_length d.chain)

-- ---- the claims

pub nothing_waits : NothingWaits
nothing_waits p n es st h g = settle_rests (property_laws p) es n h st g

-- .. and from any such words n rounds are enough
pub nothing_waits_on : NothingWaitsOn
nothing_waits_on p n es vs st h g = settle_rests (property_laws p) es n h (pass _ es vs st) (pass_words (property_laws p) es n h vs st g)

pub all_rounds : AllRounds
all_rounds p n es st h g = settle_all _ es n n st (nothing_waits p n es st h g)
