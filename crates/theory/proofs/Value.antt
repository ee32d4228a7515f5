-- Values of routes; settled words are best values, and best values are settled; an opened row. Assumes nothing.
--
--   from P v            == the property P with v as its value at the source
--   Way P es s v t u    == a route from s to t along edges of es that has v at s and u at t
--   Attained P es s t v == v is the value of a route from s to t, or there is none and v is the no-route word
use Rattle.property.proofs.Basics.{◌≡◌, refl, sym, ap, ◌∙◌, ◌⊎◌, inl, inr, ⊎_elim, false, true, true≢false, List, Memᴰ, ℕ, ◌≤◌, ◌<◌, set, length, replicate, length-set, length-replicate, get_or-set_other}
use Rattle.property.specs.Property.{M, Property}
use Rattle.property.specs.Laws.{Laws}
use Rattle.frontier.specs.Waiting.{any_of}
use Rattle.graph.specs.Edge.{Edge}
use Rattle.graph.specs.Route.{Route, here, step, Best}
use Rattle.graph.proofs.Lists.{at_set, replicate_at}
use Rattle.graph.proofs.Order.{Within}
use Rattle.run.specs.Run.{State, word, relaxable, settle}
use Rattle.run.specs.Start.{opened}
use Rattle.theory.specs.Best.{Weighed}
use Rattle.theory.proofs.Walk.{walk?, walk_of, route_of}
use Rattle.theory.proofs.Settle.{Settled, Sound, Inv, settled_complete, backed_fits, route_backed, settled, settle_good}

abbrev pub from : Property → ℕ → Property
from P v = record { start = v; none = P.none; along = P.along; better = P.better; join = P.join; worse = P.worse }

abbrev pub Way : Property → List Edge → ℕ → ℕ → ℕ → ℕ → Type 0
Way P es s v t u = Route (from P v) es s t u

-- how a best value comes about
abbrev pub Attained : Property → List Edge → ℕ → ℕ → ℕ → Type 0
Attained P es s t v = Route P es s t v ⊎ (((u : ℕ) → Route P es s t u → ⊥) × (v ≡ P.none))

-- ---- from any value

module _ {P : Property} (L : Laws P) {es : List Edge} {s v : ℕ} (weights : Weighed es) (fits : v ≤ M) where
  pub way_fits : {t u : ℕ} → Way P es s v t u → u ≤ M
  way_fits here = fits
  way_fits (step {e = e} r m) = L.along_fits _ _ (way_fits r) (weights e m)

  pub way_after : {t u : ℕ} → Way P es s v t u → P.better u v ≡ false
  way_after here = L.irreflexive _
  way_after (step {e = e} {v = w} r m) = L.transitive _ _ _ (way_after r) (L.along_no_better w e.weight (way_fits r))

module _ {P : Property} (L : Laws P) (es : List Edge) (s n : ℕ) (inside : Within n es) where
  open P use {start, none, along, better}

  -- ---- values of routes

  pub value_fits : {t u : ℕ} → Route P es s t u → u ≤ M
  value_fits r = way_fits L inside.weights L.start_fits r

  -- no route is better than the source's value ..
  pub value_after : {t u : ℕ} → Route P es s t u → better u start ≡ false
  value_after r = way_after L inside.weights L.start_fits r

  -- .. and none is worse than no route
  pub value_before : {t u : ℕ} → Route P es s t u → better none u ≡ false
  value_before r = L.none_worst _ (value_fits r)

  -- best values are words
  pub best_fits : {t v : ℕ} → Best P es s t v → v ≤ M
  best_fits b = ⊎_elim value_fits (λ c. rw c.1 L.none_fits) b.attained

  -- an edge that leaves a vertex without a route could not better a sound word
  pub none_quiet : (ws : List ℕ) → Sound P es s ws → (e : Edge) → Memᴰ e es → word P ws e.tail ≡ none → relaxable P ws e ≡ false
  none_quiet ws sound e m q =
      let d : along (word P ws e.tail) e.weight ≡ none = ap (λ x. along x e.weight) q ∙ L.along_none _ (inside.weights e m) in
      rw (d, relaxable) (L.none_worst _ (backed_fits L (sound e.head)))

  -- ---- settled words and best values

  -- Where nothing waits the words are settled, so complete: no route betters them. They are sound: each is none, or no better than the
  -- value of a route, and so that value. Where a word is none although there is a walk, that walk's route is no better than none and no
  -- worse, so none is its value.
  pub settled_best : (st : State) → Inv P es s n st → any_of st.waiting ≡ false → (t : ℕ) → Best P es s t (word P st.words t)
  settled_best st g q t = record {
    unbettered = λ u r. all r;
    attained = ⊎_elim (λ (u, r, h, f). equal r h) (λ e. elim (walk? es s t) [
      | no d ↦ inr (λ u r. d (walk_of r), e)
      | yes k ↦ let (u, r) = route_of P k in equal r (rw e (value_before r))
    ]) (g.sound t);
  }
    where
      all : {u : ℕ} → Route P es s t u → better u (word P st.words t) ≡ false
      all r = settled_complete L es s st.words g.source (settled L es s n inside st g q) r

      equal : {u : ℕ} → Route P es s t u → better (word P st.words t) u ≡ false → Attained P es s t (word P st.words t)
      equal r h = inl (rw (L.antisymmetric _ _ h (all r)) r)

  pub best_sound : (ws : List ℕ) → ((t : ℕ) → Best P es s t (word P ws t)) → Sound P es s ws
  best_sound ws best t = ⊎_elim (λ r. route_backed L r (value_fits r)) (λ c. inr c.1) (best t).attained

  -- a route to the tail goes on to the head, where no route betters the word; with no route to the tail none leads on
  pub best_settled : (ws : List ℕ) → ((t : ℕ) → Best P es s t (word P ws t)) → Settled P es ws
  best_settled ws best e m =
      ⊎_elim (λ r. (best e.head).unbettered _ (step r m)) (λ c. none_quiet ws (best_sound ws best) e m c.1) (best e.tail).attained

  -- ---- an opened row

  -- The source has the value of the route that stays there, all others none: sound. Only edges of the source start at a vertex that has
  -- a route, so only they could better anything, and the source waits.
  pub opened_good : s < n → Inv P es s n (opened P n s)
  unfolding opened
  opened_good h =
      let b : s < length (replicate n none) = rw length-replicate h in
      let b' : s < length (replicate n false) = rw length-replicate h in
      let sound : Sound P es s (set (replicate n none) s start) = λ t.
      ⊎_elim (λ c. rw (c.1, c.0) (route_backed L here L.start_fits)) (λ c. inr (c.1 ∙ replicate_at n t none)) (at_set (replicate n none) s start t none b) in
      let other : (e : Edge) → (e.tail ≡ s → ⊥) → word P (set (replicate n none) s start) e.tail ≡ none = λ e d.
      get_or-set_other (replicate n none) s e.tail start none d ∙ replicate_at n e.tail none in
      record {
        words_n = length-set (replicate n none) _ _ ∙ length-replicate n none;
        waiting_n = length-set (replicate n false) _ _ ∙ length-replicate n false;
        source = ⊎_elim (λ c. rw c.1 (L.irreflexive start)) (λ c. absurd (c.0 refl)) (at_set (replicate n none) s start s none b);
        sound = sound;
        pending = λ e m c.
            ⊎_elim (λ q. inl q.1) (λ q. absurd (true≢false (sym c ∙ none_quiet (set (replicate n none) s start) sound e m (other e q.0))))
            (at_set (replicate n false) s true e.tail false b');
      }

  pub opened_best : s < n → (k : ℕ) → any_of (settle P es n k (opened P n s)).waiting ≡ false
      → (t : ℕ) → Best P es s t (word P (settle P es n k (opened P n s)).words t)
  opened_best h k q t = settled_best (settle P es n k (opened P n s)) (settle_good L es s n inside k (opened P n s) (opened_good h)) q t
