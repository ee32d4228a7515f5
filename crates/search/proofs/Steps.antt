-- Steps of a search, as the code makes them: a vertex is found, a vertex is expanded, the search begins, goes on and stops. Assumes nothing.
--
-- A vertex is put at the end of the queue when it is found, and then its word is an arc's, which is never `unfound`. So the words that are
-- `unfound` fall by one whenever the queue grows by one: together they stay as many as there are vertices. Where one more is found, some word was
-- `unfound`, so the queue has room for it; and the entry that is expanded is always below the number of vertices, so that number of steps suffices.
use Rattle.property.proofs.Basics.{◌≡◌, sym, ap, ap₂, ◌∙◌, ◌≢◌, ◌⊎◌, inl, inr, ⊎_elim, Bool, true, false, ◌||◌, List, foldl, not, ℕ, zero, suc, ◌+◌, ◌-◌, ◌≤◌, ◌<◌, add-one, arith, length, get_or, set, take, replicate, eqb, ltb, length-set, length-replicate, length-take-le, take-suc-set, get_or-take, sub-zero, get_or-set_same, lt-ltb, le-ltb, eqb-true, le-leb, lt-leb}
use Rattle.property.proofs.Tests.{by_test}
use Rattle.property.specs.Property.{property}
use Rattle.property.proofs.Instances.{property_rest}
use Rattle.graph.specs.Limits.{max_vertices}
use Rattle.graph.specs.Arc.{arc, arc_head, arc_weight}
use Rattle.graph.specs.Edge.{Edge, edge, leaving}
use Rattle.graph.specs.Code.{equal}
use Rattle.graph.specs.Index.{own}
use Rattle.graph.proofs.Tests.{and_true, and_false, neither}
use Rattle.graph.proofs.Lists.{at_set, get_or_within, replicate_at}
use Rattle.graph.proofs.Counts.{equal_all, equal_set}
use Rattle.run.specs.Start.{values_from}
use Rattle.answers.specs.Routing.{eligible}
use Rattle.search.specs.Search.{unfound, no_arc, Search, is_unfound, finds, look, expand, begun, search, is_searched, searched}
use Rattle.search.specs.Code.{is_eligible, search_of, Searching}
use Rattle.search.proofs.Turns.{search_none, search_more, search_stops}

-- ---- whether an edge can lie on a best route

module _ (p v x w y : ℕ) where
  -- by how the code decides it, for 1 and 2 and for the others
  pub eligible_low : (a : ℕ) → p ≤ 2 → a ≡ (property p).along x w → eqb a y ≡ is_eligible p v x w y
  eligible_low a l e = rw (le-leb p 2 l, e)

  pub eligible_high : (s a : ℕ) (b : Bool) → 2 < p → s ≡ (property p).start → a ≡ (property p).along s w → b ≡ (property p).better v a
      → not b ≡ is_eligible p v x w y
  eligible_high s a b l d e f = rw (lt-leb p 2 l, f, e, d)

-- the edge of an arc, by the words that its ends have in the row
pub eligible_word : (p v u h w a : ℕ) (ws : List ℕ) (r : Bool) → u < length ws → arc_head a < length ws → h ≡ arc_head a → w ≡ arc_weight a
    → r ≡ is_eligible p v (get_or ws u 0) w (get_or ws h 0) → eligible p ws v (edge u (arc_head a) (arc_weight a)) ≡ r
eligible_word p v u h w a ws r i j f g e =
    rw (e, get_or_within ws u (property p).none 0 i, get_or_within ws (arc_head a) (property p).none 0 j, f, g)

-- ---- a vertex is found

-- the edge does not pass, or its head is found already
pub look_keeps : (h m : ℕ) (qs vs : List ℕ) (f : Edge → Bool) (e : Edge) (t : Bool) → f e ≡ t → e.head ≡ h → (t ≡ false) ⊎ (eqb (get_or vs h 0) unfound ≡ false)
    → search_of m qs vs ≡ look f (search_of m qs vs) e
unfolding look finds
look_keeps h m qs vs f e t q p g = rw (q, p, and_false t (eqb (get_or vs h 0) unfound) g)

module _ (h by m : ℕ) (qs vs : List ℕ) (l : h < length vs) (b : by ≢ unfound) (s : Searching m qs vs) (t : eqb (get_or vs h 0) unfound ≡ true) where
  -- what is not found yet is counted, so the queue has room for one more
  pub queue_room : m < length vs
  queue_room = let z = equal_set unfound vs h by l (eqb-true _ _ t) b in omega (arith, s.once)

  -- it is found once, and found and not found are still all
  pub searching_found : Searching (m + 1) (set qs m h) (set vs h by)
  searching_found =
      let r = queue_room in
      let x = length-set vs h by in
      let y = length-set qs m h in
      record {
        few = omega (arith, s.few);
        room = omega (arith, s.room);
        once = let z = equal_set unfound vs h by l (eqb-true _ _ t) b in omega (arith, s.once);
        inside = λ i j.
            ⊎_elim (λ q. let e = q.1 in omega arith) (λ q. let e = q.1 in let n = q.0 in let k = s.inside i (omega arith) in omega arith)
            (at_set qs m h i 0 (omega (arith, s.room)));
      }

  -- the edge passes and its head is found by it
  pub look_finds : (f : Edge → Bool) (e : Edge) → f e ≡ true → e.head ≡ h → arc e.tail e.weight ≡ by
      → search_of (m + 1) (set qs m h) (set vs h by) ≡ look f (search_of m qs vs) e
  unfolding look finds
  look_finds f e q p a =
      let z = queue_room in
      rw (q, p, t, add-one, take-suc-set qs m h (omega (arith, s.room)), a)

-- ---- a vertex is expanded

-- an index has the edges of a vertex
pub expand_own : (f : Edge → Bool) (es : List Edge) (is : List ℕ) (st : Search) (u : ℕ) → own is u ≡ leaving u es → foldl (look f) st (own is u) ≡ expand f es st u
unfolding expand
expand_own f es is st u e = ap (foldl (look f) st) e

-- ---- the search begins

module _ (n s : ℕ) (qs fs : List ℕ) (e : fs ≡ replicate n unfound) (l : s < n) (few : n ≤ max_vertices) (room : n ≤ length qs) where
  -- the source alone is found
  pub searching_begun : Searching 1 (set qs 0 s) (set fs s no_arc)
  searching_begun =
      let z = ap length e ∙ length-replicate n unfound in
      let x = length-set fs s no_arc in
      let y = length-set qs 0 s in
      let r = length-replicate n unfound in
      let a = equal_set unfound (replicate n unfound) s no_arc (omega arith) (get_or_within (replicate n unfound) s 0 unfound (omega arith) ∙ replicate_at n s unfound) (λ q. omega arith) in
      record {
        few = omega arith;
        room = omega arith;
        once = let b = equal_all unfound n in let c = ap (λ (l : List ℕ). equal unfound (set l s no_arc)) e in omega arith;
        inside = λ i j. let k : i ≡ 0 = omega arith in rw (k, get_or-set_same qs 0 s 0 (omega arith)) (omega arith);
      }

  pub search_begins : (k : ℕ) → k ≡ length (set fs s no_arc) → (f : Edge → Bool) (es : List Edge) (t : ℕ)
      → search f es t (k - 0) 0 (search_of 1 (set qs 0 s) (set fs s no_arc)) ≡ search f es t k 0 (begun k s)
  search_begins k h f es t =
      let z : k ≡ n = h ∙ length-set fs s no_arc ∙ ap length e ∙ length-replicate n unfound in
      rw (z, sub-zero, e, take-suc-set qs 0 s (omega arith))

-- ---- the search goes on or stops

module _ (f : Edge → Bool) (es : List Edge) (t i m : ℕ) (qs vs : List ℕ) (s : Searching m qs vs) where
  queue_size : length (take m qs) ≡ m
  queue_size = length-take-le m qs (omega (arith, s.once, s.room))

  -- entry i is there and t is not found: it is expanded
  pub search_turn : (n : ℕ) (st : Search) → n ≡ length vs → i < m → eqb (get_or vs t 0) unfound ≡ true → st ≡ expand f es (search_of m qs vs) (get_or qs i 0)
      → search f es t (n - i) i (search_of m qs vs) ≡ search f es t (n - (i + 1)) (i + 1) st
  search_turn n st z l u e =
      let k : n - i ≡ suc (n - (i + 1)) = omega (arith, s.once) in
      rw (k, e)
      (search_more f es t (n - (i + 1)) i (search_of m qs vs) (and_true (lt-ltb i (length (take m qs)) (omega (arith, queue_size))) u)
      ∙ ap₂ (λ (j u : ℕ). search f es t (n - (i + 1)) j (expand f es (search_of m qs vs) u)) (sym (add-one i)) (get_or-take m qs i 0 l))

  -- no entry is left, or t is found: nothing more is done
  pub search_ends : (k : ℕ) → (m ≤ i) ⊎ (eqb (get_or vs t 0) unfound ≡ false) → search f es t k i (search_of m qs vs) ≡ search_of m qs vs
  search_ends zero h = search_none f es t i (search_of m qs vs)
  search_ends (suc k) h = search_stops f es t k i (search_of m qs vs)
      (and_false _ _ (⊎_elim (λ l. inl (le-ltb i (length (take m qs)) (omega (arith, queue_size)))) inr h))

-- ---- the whole search

module _ (n s t : ℕ) (es : List Edge) (ws : List ℕ) where
  -- a search along the edges that pass one of two tests that agree
  along_same : (f g : Edge → Bool) → ((e : Edge) → f e ≡ g e) → search f es t n 0 (begun n s) ≡ search g es t n 0 (begun n s)
  along_same f g h = ap (λ (x : Edge → Bool). search x es t n 0 (begun n s)) (λ i e. h e i)

  -- a number above 2 that a `match` with arms for 1, 3 and 4 leaves over
  pub search_rest : (p v : ℕ) → 0 < p → p ≢ 2 → ((Unit {0} × (p ≡ 1 → ⊥)) × (p ≡ 3 → ⊥)) × (p ≡ 4 → ⊥)
      → search (eligible 5 ws v) es t n 0 (begun n s) ≡ search (eligible p ws v) es t n 0 (begun n s)
  unfolding property
  search_rest p v l d h =
      let k = lt-leb p 2 (omega (arith, h.0.0.1)) in
      let q = property_rest p (((h.0.0, d), h.0.1), h.1) in
      along_same (eligible 5 ws v) (eligible p ws v) (λ e. rw (k, q))

  -- for time, headroom and worst stretch the eligible edges are searched
  pub searched_best : (p : ℕ) → (eqb p 2 || ltb 4 p) ≡ false → t < length ws → ws ≡ values_from (property p) es n s
      → search (eligible p ws (get_or ws t 0)) es t n 0 (begun n s) ≡ searched p es n s t
  searched_best p a l e =
      let (b, c) = neither (eqb p 2) (ltb 4 p) a in
      rw (← e) (along_same (eligible p ws (get_or ws t 0)) (is_searched p ws t) (λ x. rw (b, c, get_or_within ws t (property p).none 0 l)))

  -- for handovers and reach every edge is, as each is eligible for reach
  pub searched_all : (p : ℕ) → (eqb p 2 || ltb 4 p) ≡ true → search (eligible 5 ws 1) es t n 0 (begun n s) ≡ searched p es n s t
  unfolding property
  searched_all p a = along_same (eligible 5 ws 1) (is_searched p (values_from (property p) es n s) t)
      (λ x. by_test (eqb p 2) (λ b. rw b) (λ b. let c : ltb 4 p ≡ true = rw b at a in rw (b, c)))

-- what is told of a search is told of one that equals it
pub told_of : (t : ℕ) (vs : List ℕ) (r : Bool) (a b : Search) → a ≡ b → (vs ≡ a.via) × (r ≡ not (is_unfound a t)) → (vs ≡ b.via) × (r ≡ not (is_unfound b t))
told_of t vs r a b e h = (h.0 ∙ ap (λ st. st.via) e, h.1 ∙ ap (λ st. not (is_unfound st t)) e)
