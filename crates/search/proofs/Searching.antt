-- The search finds its target where a route of the searched edges leads there, and then by the first such route: with the fewest edges, of those the lowest,
-- and along the lightest of twins. Its words lead back along that route. Assumes nothing.
--
--   Found ks s t vs == a route of ks from s to t is no later than any other, no twin of its edges is lighter, and the words vs lead back along it
--   Entered vs j g  == entry j is g: its route leads to its vertex, along the lightest of twins, and has at most j edges, and vs has the arc of each of
--                       them, reversed
--   Held gs st      == the search st has the entries gs, one for each vertex found, in the order of their routes
--   Under gs st i b == and their routes' numbers are below b, and the heads of all edges from the first i entries are found by routes that are no later
--   Gone ..         == and then entries are put after gs, so that the edges that P names are gone over too
--   Left gs v c os  == of the edges of vertex v, os are left to be gone over
--   Ready gs i b    == what follows on the route of entry i, which is in turn, comes after all that is found
--   Done t st       == the end of a search: all is expanded, or t is found
--   Covered gs k v  == v is found by a route whose number is at most k, or all that is found is
use Rattle.property.proofs.Basics.{◌≡◌, refl, sym, ap, subst, ◌∙◌, ◌⊎◌, inl, inr, ⊎_elim, ◌≢◌, Bool, true, false, true≢false, ◌&&◌, List, [], ◌∷◌, ◌++◌, map, foldl, Memᴰ, Memᴰ-head, Memᴰ-tail, Memᴰ-cases_cons, Memᴰ-not_nil, ℕ, zero, suc, ◌+◌, ◌*◌, ◌≤◌, ◌<◌, arith, length, get_or, set, replicate, length-set, length-append, length-replicate, length-map, get_or-map, get_or-set_same, ltb, eqb, ltb-true, ltb-false, eqb-true, eqb-false}
use mathlib.Core.List.Memᴰ
use mathlib.Core.List.{map-append}
use lib.ListN.{get_or-replicate}
use lib.Seq.{get_or-append_seam}
use Rattle.property.proofs.Tests.{by_test, is_false}
use Rattle.graph.specs.Limits.{max_vertices}
use Rattle.graph.specs.Arc.{arc}
use Rattle.graph.specs.Edge.{Edge, edge, keep, leaving}
use Rattle.graph.specs.Table.{is_edge}
use Rattle.graph.specs.Code.{equal}
use Rattle.graph.specs.Leads.{Leads, stop, on, visited}
use Rattle.graph.proofs.Tests.{both, and_true}
use Rattle.graph.proofs.Lists.{at_set, get_or_mem}
use Rattle.graph.proofs.Counts.{equal_all, equal_set}
use Rattle.graph.proofs.Edges.{keep_in, in_keep, leaving_in, in_leaving}
use Rattle.graph.proofs.Order.{table_ordered, Sound, EdgeFacts, sound_fit}
use Rattle.graph.proofs.Keeps.{ahead_mem, keep_sound}
use Rattle.theory.proofs.Leads.{Least, leads_snoc, leads_none}
use Rattle.answers.proofs.Parallel.{Lightest, Light, precedes_head, precedes_weight}
use Rattle.search.specs.Search.{unfound, no_arc, Search, is_unfound, finds, look, expand, begun, search}
use Rattle.search.specs.Code.{weight_at, Trace}
use Rattle.search.proofs.Routes.{rank, Narrow, rank_on, rank_most, rank_last, rank_no_later, leads_mem, leads_last, leads_tail}
use Rattle.search.proofs.Entries.{Entry, entry, key, Before, Known, Reached, Grows, each_on, grows_none, grows_then, grows_one, known_grows, reached_grows}
use Rattle.search.proofs.Turns.{search_none, search_more, search_stops}

abbrev pub Found : List Edge → ℕ → ℕ → List ℕ → Type 0
Found ks s t vs = (ps : List Edge) × Least ks s t ps × Light ks ps × Trace s t vs ps

module _ (f : Edge → Bool) (es : List Edge) (n s : ℕ) (sound : Sound n es) (small : n ≤ max_vertices) (home : s < n) where
  kept_fit : (e : Edge) → Memᴰ e (keep f es) → EdgeFacts n e
  kept_fit e m = sound_fit n es sound e (keep_in f es e m).0

  leads_narrow : {ps : List Edge} {t : ℕ} → Leads (keep f es) s ps t → Narrow ps
  leads_narrow l e m = let z = (kept_fit e (leads_mem l m)).head_below in omega (arith, small)

  -- no arc of an edge is the word of a vertex that is not found
  arc_found : (e : Edge) → Memᴰ e (keep f es) → arc e.tail e.weight ≢ unfound
  arc_found e m q = let z = kept_fit e m in omega (arith, small)

  pub record Entered (vs : List ℕ) (j : ℕ) (g : Entry) : Type 0 where
    pub leads : Leads (keep f es) s g.route g.vertex
    pub light : Light (keep f es) g.route
    pub found : get_or vs g.vertex 0 ≢ unfound
    pub traced : (e : Edge) → Memᴰ e g.route → get_or vs e.head 0 ≡ arc e.tail e.weight
    pub few : length g.route ≤ j

  pub record Held (gs : List Entry) (st : Search) : Type 0 where
    pub queued : st.queue ≡ map (λ g. g.vertex) gs
    pub sized : length st.via ≡ n
    pub source : get_or st.via s 0 ≡ no_arc
    pub once : length gs + equal unfound st.via ≡ n
    pub entered : (j : ℕ) → j < length gs → Entered st.via j (entry gs j)
    pub known : (u : ℕ) → u < n → get_or st.via u 0 ≢ unfound → Known gs u
    pub ascending : (j k : ℕ) → j < k → k < length gs → Before (entry gs j) (entry gs k)

  pub record Under (gs : List Entry) (st : Search) (i b : ℕ) : Type 0 where
    pub held : Held gs st
    pub bounded : (j : ℕ) → j < length gs → key (entry gs j) < b
    pub closed : (j : ℕ) → j < i → j < length gs → (e : Edge) → Memᴰ e (keep f es) → e.tail ≡ (entry gs j).vertex → Reached gs (key (entry gs j) * max_vertices + e.head) e.head

  under_raise : {gs : List Entry} {st : Search} {i b : ℕ} (c : ℕ) → b ≤ c → Under gs st i b → Under gs st i c
  under_raise c l u = record { held = u.held; bounded = λ j h. (let z = u.bounded j h in omega arith); closed = u.closed }

  -- ---- one edge

  -- the edges are of entry i, whose number is k, and numbers are below k's digit c afterwards
  abbrev Gone : List Entry → Search → ℕ → ℕ → ℕ → (Edge → Type 0) → Type 0
  Gone gs st i k c P = (gs' : List Entry) × Grows gs gs' × Under gs' st i (k * max_vertices + c) × ((e : Edge) → P e → f e ≡ true → Reached gs' (k * max_vertices + e.head) e.head)

  -- An edge from entry i whose head is not found yet, and no searched twin is lighter. Its entry is put last: the route goes on along the edge. No number is
  -- above the route's own, and none is the same, since its last digit is the head, which no entry has; so it comes after all others. Words that the
  -- invariant speaks of stay, for the word that is stored over is `unfound`, which no arc is.
  module _ {gs : List Entry} {st : Search} {i b : ℕ} (u : Under gs st i b) (l : i < length gs) (e : Edge) (m : Memᴰ e (keep f es)) (p : e.tail ≡ (entry gs i).vertex)
      (c : b ≤ key (entry gs i) * max_vertices + suc e.head) (first : Lightest (keep f es) e) (o : get_or st.via e.head 0 ≡ unfound) where
    abbrev next : Entry
    next = record { vertex = e.head; route = (entry gs i).route ++ e ∷ [] }

    abbrev later : List ℕ
    later = set st.via e.head (arc e.tail e.weight)

    inside : e.head < length st.via
    inside = let z = (kept_fit e m).head_below in omega (arith, u.held.sized)

    at_later : (v : ℕ) → ((v ≡ e.head) × (get_or later v 0 ≡ arc e.tail e.weight)) ⊎ ((v ≢ e.head) × (get_or later v 0 ≡ get_or st.via v 0))
    at_later v = at_set st.via e.head (arc e.tail e.weight) v 0 inside

    stays : (j : ℕ) (g : Entry) → Entered st.via j g → Entered later j g
    stays j g h = record {
      leads = h.leads;
      light = h.light;
      found = λ q. ⊎_elim (λ a. arc_found e m (sym a.1 ∙ q)) (λ a. h.found (sym a.1 ∙ q)) (at_later g.vertex);
      traced = λ x k. ⊎_elim (λ a. absurd (arc_found x (leads_mem h.leads k) (sym (h.traced x k) ∙ (ap (λ (v : ℕ). get_or st.via v 0) a.0 ∙ o)))) (λ a. a.1 ∙ h.traced x k) (at_later x.head);
      few = h.few;
    }

    entered_next : Entered later (length gs) next
    entered_next =
        let h = u.held.entered i l in
        let h' = stays i (entry gs i) h in
        let t : get_or later e.head 0 ≡ arc e.tail e.weight = get_or-set_same st.via e.head (arc e.tail e.weight) 0 inside in
        record {
          leads = leads_snoc h.leads (sym p) m;
          light = λ x k. ⊎_elim (h.light x) (λ a. ⊎_elim (λ q. rw q first) (λ z. absurd (Memᴰ-not_nil z)) (Memᴰ-cases_cons a)) (Memᴰ.append_cases (entry gs i).route k);
          found = λ q. arc_found e m (sym t ∙ q);
          traced = λ x k. ⊎_elim (λ a. h'.traced x a) (λ a. ⊎_elim (λ q. rw q t) (λ z. absurd (Memᴰ-not_nil z)) (Memᴰ-cases_cons a)) (Memᴰ.append_cases (entry gs i).route k);
          few = (let a = h.few in let d = length-append (entry gs i).route (e ∷ []) in omega arith);
        }

    key_next : key next ≡ key (entry gs i) * max_vertices + e.head
    key_next = rank_on 1 (entry gs i).route e

    -- no other entry has this number
    key_other : (j : ℕ) → j < length gs → key (entry gs j) < key next
    key_other j h =
        let x = u.held.entered j h in
        let z = u.bounded j h in
        let y = rank_most 1 (entry gs i).route in
        let r : key (entry gs j) ≢ key next = λ q. x.found (ap (λ (v : ℕ). get_or st.via v 0)
        (rank_last (key (entry gs i)) e.head x.leads (leads_narrow x.leads) (omega arith) (let w = (kept_fit e m).head_below in omega (arith, small)) (q ∙ key_next)) ∙ o) in
        let w = key_next in
        omega (arith, c)

    long : length (gs ++ next ∷ []) ≡ suc (length gs)
    long = length-append gs (next ∷ []) ∙ omega arith

    grown : Grows gs (gs ++ next ∷ [])
    grown = grows_one gs next

    last_next : entry (gs ++ next ∷ []) (length gs) ≡ next
    last_next = get_or-append_seam gs next [] _

    held_finds : Held (gs ++ next ∷ []) (finds true st e)
    unfolding finds
    held_finds = record {
      queued = (rw (u.held.queued, map-append (λ (g : Entry). g.vertex) gs (next ∷ [])));
      sized = length-set st.via e.head (arc e.tail e.weight) ∙ u.held.sized;
      source = ⊎_elim (λ a. absurd (let z = sym u.held.source ∙ (ap (λ (v : ℕ). get_or st.via v 0) a.0 ∙ o) in omega arith)) (λ a. a.1 ∙ u.held.source) (at_later s);
      once = (let z = equal_set unfound st.via e.head (arc e.tail e.weight) inside o (arc_found e m) in omega (arith, long, u.held.once));
      entered = each_on (Entered later) gs next (λ j h. stays j (entry gs j) (u.held.entered j h)) entered_next;
      known = λ v h q. ⊎_elim (λ a. (length gs, (omega (arith, long)), ap (λ (g : Entry). g.vertex) last_next ∙ sym a.0))
          (λ a. let (j, k, r) = u.held.known v h (λ z. q (a.1 ∙ z)) in (j, (omega (arith, long)), ap (λ (g : Entry). g.vertex) (grown.same j k) ∙ r))
          (at_later v);
      ascending = up;
    }
      where
        up : (j k : ℕ) → j < k → k < length (gs ++ next ∷ []) → Before (entry (gs ++ next ∷ []) j) (entry (gs ++ next ∷ []) k)
        up j k h r = by_test (eqb k (length gs))
            (λ q. let y = eqb-true k (length gs) q in
            let g : j < length gs = omega arith in
            let x = u.held.entered j g in
            rw (y, grown.same j g, last_next) (key_other j g, λ t. x.found (ap (λ (v : ℕ). get_or st.via v 0) t ∙ o)))
            (λ q. let y = eqb-false k (length gs) q in
            let t = long in
            rw (grown.same j (omega arith), grown.same k (omega arith)) (u.held.ascending j k h (omega arith)))

    under_finds : Under (gs ++ next ∷ []) (finds true st e) i (key (entry gs i) * max_vertices + suc e.head)
    under_finds = record {
      held = held_finds;
      bounded = each_on (λ j g. key g < key (entry gs i) * max_vertices + suc e.head) gs next (λ j h. let z = u.bounded j h in omega (arith, c)) (let z = key_next in omega arith);
      closed = λ j h k x a q. (let z = grown.same j (omega (arith, l)) in rw z (reached_grows grown (u.closed j h (omega (arith, l)) x a (q ∙ ap (λ (g : Entry). g.vertex) z))));
    }

    gone_finds : Gone gs (finds true st e) i (key (entry gs i)) (suc e.head) (λ x. x ≡ e)
    gone_finds = (
      gs ++ next ∷ [],
      grown,
      under_finds,
      λ x r _. rw r (length gs, (omega (arith, long)), ap (λ (g : Entry). g.vertex) last_next, (rw last_next (omega (arith, key_next)))),
    )

  -- An edge that is searched: its head is found already, by a route that is no later than the one along this edge since all are, or it is found now. Then no
  -- searched twin is lighter, for such a one came before, and its head was found by then.
  look_gone : (gs : List Entry) (st : Search) (i k c : ℕ) → i < length gs → key (entry gs i) ≡ k → Under gs st i (k * max_vertices + suc c)
      → (e : Edge) → Memᴰ e es → e.tail ≡ (entry gs i).vertex → c ≤ e.head
      → ((x : Edge) → Memᴰ x (keep f es) → e.tail ≡ x.tail → e.head ≡ x.head → (e.weight ≤ x.weight) ⊎ Known gs e.head)
      → Gone gs (look f st e) i k (suc e.head) (λ x. x ≡ e)
  unfolding look finds
  look_gone gs st i k c l q u e m p a first = by_test (f e)
      (λ t. by_test (is_unfound st e.head)
      (λ o.
      let z = eqb-true (get_or st.via e.head 0) unfound o in
      let lone : Lightest (keep f es) e = λ x d r y. ⊎_elim (λ w. w) (λ (j, h, w). absurd ((u.held.entered j h).found (ap (λ (v : ℕ). get_or st.via v 0) w ∙ z))) (first x d r y) in
      rw (t, o, ← q) (gone_finds u l e (in_keep f m t) p (omega (arith, q, a)) lone z))
      (λ o. rw (t, o) (
        gs,
        grows_none gs,
        raised,
        λ x r _. rw r (
            let (j, h, z) = u.held.known e.head (sound_fit n es sound e m).head_below (eqb-false _ _ o) in
            let y = u.bounded j h in
            (j, h, z, omega (arith, a))),
      )))
      (λ t. rw t (gs, grows_none gs, raised, λ x r y. absurd (true≢false (sym y ∙ (ap f r ∙ t)))))
    where
      raised : Under gs st i (k * max_vertices + suc e.head)
      raised = under_raise _ (omega (arith, a)) u

  -- ---- the edges of one entry

  -- the edges os of vertex v are left: they are in table order, their heads are at least c, and each other searched edge of v has found its head
  pub record Left (gs : List Entry) (v c : ℕ) (os : List Edge) : Type 0 where
    pub sorted : Sound n os
    pub own : (e : Edge) → Memᴰ e os → Memᴰ e es × (e.tail ≡ v)
    pub onward : (e : Edge) → Memᴰ e os → c ≤ e.head
    pub others : (x : Edge) → Memᴰ x (keep f es) → x.tail ≡ v → Memᴰ x os ⊎ Known gs x.head

  -- what is left after one more
  left_rest : {gs gs' : List Entry} {v c : ℕ} {e : Edge} {os : List Edge} → Left gs v c (e ∷ os) → Grows gs gs' → (f e ≡ true → Known gs' e.head) → Left gs' v e.head os
  left_rest {e = e} {os = os} a g k =
      let p = (a.own e (Memᴰ-head refl)).1 in
      record {
        sorted = a.sorted.2;
        own = λ x m. a.own x (Memᴰ-tail m);
        onward = λ x m. precedes_head e x (ahead_mem table_ordered (is_edge n) e os a.sorted.1 a.sorted.2 x m) (p ∙ sym (a.own x (Memᴰ-tail m)).1);
        others = λ x m q. ⊎_elim (λ j. ⊎_elim (λ z. inr (rw z (k (sym (ap f z) ∙ (keep_in f es x m).1)))) inl (Memᴰ-cases_cons j)) (λ j. inr (known_grows g j)) (a.others x m q);
      }

  -- a twin of the next edge comes after it, and is heavier, or its head, which is the same, is found
  left_first : {gs : List Entry} {v c : ℕ} {e : Edge} {os : List Edge} → Left gs v c (e ∷ os)
      → (x : Edge) → Memᴰ x (keep f es) → e.tail ≡ x.tail → e.head ≡ x.head → (e.weight ≤ x.weight) ⊎ Known gs e.head
  left_first {e = e} {os = os} a x m p q = ⊎_elim
      (λ j. inl (⊎_elim (λ z. let y = ap (λ (o : Edge). o.weight) z in omega arith)
      (λ k. let y = precedes_weight e x (ahead_mem table_ordered (is_edge n) e os a.sorted.1 a.sorted.2 x k) p q in omega arith) (Memᴰ-cases_cons j)))
      (λ k. inr (rw q k)) (a.others x m (sym p ∙ (a.own e (Memᴰ-head refl)).1))

  -- they ascend by head, so each comes after what the ones before have found
  edges_gone : (os : List Edge) (gs : List Entry) (st : Search) (i k v c : ℕ) → i < length gs → key (entry gs i) ≡ k → (entry gs i).vertex ≡ v → Under gs st i (k * max_vertices + suc c)
      → Left gs v c os → c < max_vertices → Gone gs (foldl (look f) st os) i k max_vertices (λ e. Memᴰ e os)
  edges_gone [] gs st i k v c l q p u r h = (gs, grows_none gs, under_raise _ (omega (arith, h)) u, λ e m _. absurd (Memᴰ-not_nil m))
  edges_gone (e ∷ os) gs st i k v c l q p u r h =
      let o = r.own e (Memᴰ-head refl) in
      let b = (sound_fit n es sound e o.0).head_below in
      let (gs', g, w, a) = look_gone gs st i k c l q u e o.0 (o.1 ∙ sym p) (r.onward e (Memᴰ-head refl)) (left_first r) in
      let d = g.longer in
      let (gs'', g', w', a') = edges_gone os gs' (look f st e) i k v e.head (omega arith) (ap key (g.same i l) ∙ q) (ap (λ (x : Entry). x.vertex) (g.same i l) ∙ p) w
      (left_rest r g (λ t. let (j, x, y, _) = a e refl t in (j, x, y))) (omega (arith, small)) in
      (gs'', grows_then g g', w', λ x m t. ⊎_elim (λ y. reached_grows g' (a x y t)) (λ y. a' x y t) (Memᴰ-cases_cons m))

  -- the vertex in turn is expanded
  expand_under : (gs : List Entry) (st : Search) (i b : ℕ) → Under gs st i b → i < length gs → b ≤ key (entry gs i) * max_vertices
      → (gs' : List Entry) × Grows gs gs' × Under gs' (expand f es st (get_or st.queue i 0)) (suc i) (key (entry gs i) * max_vertices + max_vertices)
  unfolding expand
  expand_under gs st i b u l c =
      let v = (entry gs i).vertex in
      let q : get_or st.queue i 0 ≡ v = ap (λ (x : List ℕ). get_or x i 0) u.held.queued ∙ get_or-map (λ (g : Entry). g.vertex) gs i _ in
      let all : Left gs v 0 (leaving v es) = record {
        sorted = keep_sound _ n es sound;
        own = leaving_in v es;
        onward = λ e m. (omega arith);
        others = λ x m p. inl (in_leaving v (keep_in f es x m).0 p);
      } in
      let (gs', g, w, a) = edges_gone (leaving v es) gs st i (key (entry gs i)) v 0 l refl refl (under_raise _ (omega (arith, c)) u) all (omega arith) in
      rw q (
        gs',
        g,
        record {
          held = w.held;
          bounded = w.bounded;
          closed = λ j h k e m p. by_test (eqb j i)
              (λ t. let y = eqb-true j i t in let x = keep_in f es e m in
              rw (y, g.same i l) (a e (in_leaving v x.0 (p ∙ (rw (y, g.same i l) refl))) x.1))
              (λ t. let y = eqb-false j i t in w.closed j (omega arith) k e m p);
        },
      )

  -- ---- the whole search

  abbrev Ready : List Entry → ℕ → ℕ → Type 0
  Ready gs i b = i < length gs → b ≤ key (entry gs i) * max_vertices

  -- a search that is done: what is left in its queue comes after all that is found, and nothing is left where t is not found
  pub record Done (t : ℕ) (st : Search) : Type 0 where
    pub entries : List Entry
    pub index : ℕ
    pub bound : ℕ
    pub under : Under entries st index bound
    pub ready : Ready entries index bound
    pub spent : is_unfound st t ≡ true → length entries ≤ index

  queue_long : {gs : List Entry} {st : Search} {i b : ℕ} → Under gs st i b → length st.queue ≡ length gs
  queue_long {gs} u = ap length u.held.queued ∙ length-map gs (λ (g : Entry). g.vertex)

  -- the queue has at most n entries, so as many turns are enough
  search_done : (t k i : ℕ) (st : Search) (gs : List Entry) (b : ℕ) → Under gs st i b → Ready gs i b → n ≤ k + i → Done t (search f es t k i st)
  search_done t zero i st gs b u r h = subst (Done t) (sym (search_none f es t i st)) (record { entries = gs; index = i; bound = b; under = u; ready = r; spent = λ _. let z = u.held.once in omega (arith, h) })
  search_done t (suc k) i st gs b u r h = by_test (ltb i (length st.queue) && is_unfound st t)
      (λ q.
      let z = both (ltb i (length st.queue)) (is_unfound st t) q in
      let l : i < length gs = (let y = ltb-true i (length st.queue) z.0 in omega (arith, queue_long u)) in
      let (gs', g, w) = expand_under gs st i b u l (r l) in
      subst (Done t) (sym (search_more f es t k i st q))
      (search_done t k (suc i) _ gs' _ w (λ d. let a = (w.held.ascending i (suc i) (omega arith) d).0 in let e = ap key (g.same i l) in omega arith) (omega (arith, h))))
      (λ q. subst (Done t) (sym (search_stops f es t k i st q))
      (record {
        entries = gs;
        index = i;
        bound = b;
        under = u;
        ready = r;
        spent = λ o. let y = ltb-false i (length st.queue) (is_false _ (λ p. true≢false (sym (and_true p o) ∙ q))) in omega (arith, queue_long u);
      }))

  -- before the first step the source is found, by no edge
  begun_held : Held (record { vertex = s; route = [] } ∷ []) (begun n s)
  begun_held = record {
    queued = refl;
    sized = length-set (replicate n unfound) s no_arc ∙ length-replicate n unfound;
    source = get_or-set_same (replicate n unfound) s no_arc 0 inner;
    once = (let z = equal_set unfound (replicate n unfound) s no_arc inner (get_or-replicate n s unfound 0 home) (λ q. omega arith) in let y = equal_all unfound n in omega arith);
    entered = each_on (Entered (begun n s).via) [] _ (λ j h. absurd (omega arith)) (record {
      leads = stop;
      light = λ e m. absurd (Memᴰ-not_nil m);
      found = λ q. (let z = get_or-set_same (replicate n unfound) s no_arc 0 inner in omega arith);
      traced = λ e m. absurd (Memᴰ-not_nil m);
      few = (omega arith);
    });
    known = λ u h q. ⊎_elim (λ a. (0, (omega arith), sym a.0)) (λ a. absurd (q (a.1 ∙ get_or-replicate n u unfound 0 h))) (at_set (replicate n unfound) s no_arc u 0 inner);
    ascending = λ j k h l. absurd (omega arith);
  }
    where
      inner : s < length (replicate n unfound)
      inner = let z = length-replicate n unfound in omega (arith, home)

  begun_under : Under (record { vertex = s; route = [] } ∷ []) (begun n s) 0 max_vertices
  begun_under = record { held = begun_held; bounded = λ j h. (let z : j ≡ 0 = omega arith in rw z (omega arith)); closed = λ j h. absurd (omega arith) }

  searched_done : (t : ℕ) → Done t (search f es t n 0 (begun n s))
  searched_done t = search_done t n 0 (begun n s) _ _ begun_under (λ l. omega arith) (omega arith)

  -- ---- what routes come to at the end

  module _ {gs : List Entry} {st : Search} {i b : ℕ} (u : Under gs st i b) (r : Ready gs i b) where
    -- entry 0 has at most 0 edges, so it is the source's
    start_reached : Reached gs 1 s
    start_reached =
        let (j, h, _) = u.held.known s home (λ q. let z = u.held.source in omega arith) in
        let l : 0 < length gs = omega arith in
        let e = u.held.entered 0 l in
        let (p, q) = leads_none e.leads e.few in
        (0, l, sym q, (rw p (omega arith)))

    abbrev Covered : ℕ → ℕ → Type 0
    Covered k v = Reached gs k v ⊎ ((j : ℕ) → j < length gs → key (entry gs j) ≤ k)

    -- Along each route of number k to v, v is found by a route of a number that is at most k, or all that is found is. For where v's entry is expanded,
    -- the head of an edge from it is found by a route that is no later; and where it is not, all that is found comes before what would follow on it.
    leads_covered : {v x : ℕ} {qs : List Edge} (k : ℕ) → Leads (keep f es) v qs x → Covered k v → Covered (rank k qs) x
    leads_covered k stop c = c
    leads_covered k (on {e = e} m l) c = leads_covered (k * max_vertices + e.head) l (⊎_elim found (λ a. inr (λ j h. let z = a j h in omega arith)) c)
      where
        found : Reached gs k e.tail → Covered (k * max_vertices + e.head) e.head
        found (j, h, p, q) = by_test (ltb j i)
            (λ t. let (d, g, y, z) = u.closed j (ltb-true _ _ t) h e m (sym p) in inl (d, g, y, omega (arith, q)))
            (λ t. let a = ltb-false j i t in let y = r (omega arith) in let z = least j h a in inr (λ d g. let w = u.bounded d g in omega (arith, q)))
          where
            least : (j : ℕ) → j < length gs → i ≤ j → key (entry gs i) ≤ key (entry gs j)
            least j h a = by_test (eqb i j) (λ t. rw (eqb-true i j t) (omega arith)) (λ t. let y = eqb-false i j t in let z = (u.held.ascending i j (omega arith) h).0 in omega arith)

    -- the one entry of a vertex comes before each route to it
    entry_first : (j : ℕ) → j < length gs → (qs : List Edge) → Leads (keep f es) s qs (entry gs j).vertex → key (entry gs j) ≤ rank 1 qs
    entry_first j h qs l = ⊎_elim (λ c. let (k, g, p, q) = c in rw (sole j k h g (sym p)) q) (λ c. c j h) (leads_covered 1 l (inl start_reached))
      where
        sole : (j k : ℕ) → j < length gs → k < length gs → (entry gs j).vertex ≡ (entry gs k).vertex → j ≡ k
        sole j k h g p = by_test (ltb j k) (λ t. absurd ((u.held.ascending j k (ltb-true _ _ t) g).1 p))
            (λ t. by_test (ltb k j) (λ o. absurd ((u.held.ascending k j (ltb-true _ _ o) h).1 (sym p))) (λ o. let y = ltb-false j k t in let z = ltb-false k j o in omega arith))

    -- where all is expanded, each route leads to what is found
    leads_known : length gs ≤ i → {v x : ℕ} {qs : List Edge} → Leads (keep f es) v qs x → Known gs v → Known gs x
    leads_known a stop c = c
    leads_known a (on {e = e} m l) (j, h, p) = let (d, g, q, _) = u.closed j (omega arith) h e m (sym p) in leads_known a l (d, g, q)

    -- the words lead back along the route of each entry
    module _ (j : ℕ) (h : j < length gs) where
      abbrev ps : List Edge
      ps = (entry gs j).route

      abbrev step : ℕ → Edge
      step k = get_or ps k (edge 0 0 0)

      o : Entered st.via j (entry gs j)
      o = u.held.entered j h

      step_in : (k : ℕ) → k < length ps → Memᴰ (step k) ps
      step_in k l = get_or_mem ps k _ l

      step_fit : (k : ℕ) → k < length ps → EdgeFacts n (step k)
      step_fit k l = kept_fit (step k) (leads_mem o.leads (step_in k l))

      step_head : (k : ℕ) → get_or (visited s ps) (suc k) 0 ≡ (step k).head
      step_head k = get_or-map (λ (e : Edge). e.head) ps k (edge 0 0 0)

      step_weight : (k : ℕ) → weight_at ps k ≡ (step k).weight
      step_weight k = get_or-map (λ (e : Edge). e.weight) ps k (edge 0 0 0)

      visited_below : (k : ℕ) → k ≤ length ps → get_or (visited s ps) k 0 < n
      visited_below zero l = home
      visited_below (suc k) l = rw (step_head k) (step_fit k (omega arith)).head_below

      entry_trace : Trace s (entry gs j).vertex st.via ps
      entry_trace = record {
        few = (omega (arith, u.held.sized, small));
        short = (let z = o.few in let y = u.held.once in omega (arith, u.held.sized, h));
        last = leads_last o.leads;
        inside = λ k l. (let z = visited_below k l in omega (arith, u.held.sized));
        back = λ k l. rw (step_head k, leads_tail o.leads (edge 0 0 0) k l, step_weight k) (o.traced (step k) (step_in k l));
        light = λ k l. (let z = (step_fit k l).weight_most in let y = step_weight k in omega arith);
        away = λ k l q.
            let z = (step_fit k l).some_weight in
            let y = sym u.held.source ∙ (ap (λ (v : ℕ). get_or st.via v 0) (sym q ∙ step_head k) ∙ o.traced (step k) (step_in k l)) in
            omega arith;
      }

      entry_found : Found (keep f es) s (entry gs j).vertex st.via
      entry_found = (ps, (o.leads, λ qs l. rank_no_later s ps qs (leads_narrow l) (entry_first j h qs l)), o.light, entry_trace)

  -- ---- the theorems

  -- Each vertex found has an entry with the route by which it was found, and entries ascend by their routes' numbers. Each entry in its turn is expanded:
  -- where its number is k, the routes along its edges have the numbers k * 256 + head, in the order of heads. All that was found has no higher one: it
  -- follows on an entry that comes before, or on this one by a lower head, or by a lighter twin. So a head that is found already is found by a route that is
  -- no later, and a head that is not is put last, found by the first of its twins. At the end, by induction along any route of number k to v: v is found by
  -- a route whose number is at most k, or all that is found is; for an entry that is not expanded comes after all that have followers. Where t is found,
  -- its route so comes first.
  pub search_finds : (t : ℕ) → t < n → is_unfound (search f es t n 0 (begun n s)) t ≡ false → Found (keep f es) s t (search f es t n 0 (begun n s)).via
  search_finds t h q =
      let d = searched_done t in
      let (j, l, p) = d.under.held.known t h (eqb-false _ _ q) in
      rw p at (entry_found d.under d.ready j l)

  -- Where t is not found the search has gone on until all was expanded: each entry is another vertex, so there are at most n, and n turns are enough. Then
  -- the head of each edge from a vertex found is found, so each vertex that a route leads to is, and t is none of them.
  pub search_lacks : (t : ℕ) → is_unfound (search f es t n 0 (begun n s)) t ≡ true → (qs : List Edge) → Leads (keep f es) s qs t → ⊥
  search_lacks t q qs l =
      let d = searched_done t in
      let (j, g, p, _) = start_reached d.under d.ready in
      let (k, c, r) = leads_known d.under d.ready (d.spent q) l (j, g, p) in
      (d.under.held.entered k c).found (rw r (eqb-true _ _ q))
