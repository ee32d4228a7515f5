-- Where weights move, best values do not move further. Assumes nothing.
--
--   Moves k es fs      == fs is es after single moves, one after the other, of k in all
--   Answered d es fs   == each edge of es has one of its pair in fs, of a weight at most d away
--   Retuned d es fs    == es and fs have the same pairs, and any of their weights may have moved, each by at most d
--   Close P k es s t v == there is a route along es from s to t whose value is near v
--   rest               == the edges of es that are in fs too: but for the one whose weight moves, all are
use Rattle.property.proofs.Basics.{◌≡◌, refl, sym, inl, inr, ⊎_elim, true, List, ◌∷◌, Memᴰ, Memᴰ-head, Memᴰ-tail, Memᴰ-cases_cons, Memᴰ-not_nil, ℕ, ◌+◌, ◌≤◌, max, arith, eq-eqb}
use Rattle.property.specs.Property.{M, Property}
use Rattle.property.specs.Laws.{Laws}
use Rattle.property.specs.Drift.{Near}
use Rattle.property.proofs.Drift.{Meets, Steady, Even, near_self, near_back, near_on}
use Rattle.graph.specs.Edge.{Edge, same, same_pair, keep, among}
use Rattle.graph.specs.Route.{Route, here, step, Best}
use Rattle.graph.specs.Moved.{Moved, Zone, ends, next}
use Rattle.graph.proofs.Tests.{and_true}
use Rattle.graph.proofs.Edges.{keep_in, in_keep, true_exists, pair_ends, ends_pair, among_mem}
use Rattle.theory.specs.Best.{Weighed}
use Rattle.theory.proofs.Walk.{step_for}
use Rattle.theory.proofs.Value.{Way}
use Rattle.theory.proofs.Exists.{route_map, way_join, once, best_some, best_same}

pub data Moves : ℕ → List Edge → List Edge → Type 0 where
  still : {es : List Edge} → Moves 0 es es
  move : {d k : ℕ} {es fs gs : List Edge} → (m : Moved d es fs) → m.new.weight ≤ M → Moves k fs gs → Moves (d + k) es gs

abbrev pub Answered : ℕ → List Edge → List Edge → Type 0
Answered d es fs = (e : Edge) → Memᴰ e es → (f : Edge) × Memᴰ f fs × (same_pair e f ≡ true) × Near d e.weight f.weight

pub record Retuned (d : ℕ) (es fs : List Edge) : Type 0 where
  pub forth : Answered d es fs
  pub back : Answered d fs es

-- ---- pairs, and moves the other way

pub pair_back : (e f : Edge) → same_pair e f ≡ true → same_pair f e ≡ true
pair_back e f h = let z = pair_ends e f h in ends_pair f e (sym z.0) (sym z.1)

same_self : (e : Edge) → same e e ≡ true
same_self e = and_true (eq-eqb e.tail e.tail refl) (and_true (eq-eqb e.head e.head refl) (eq-eqb e.weight e.weight refl))

pub moved_back : {d : ℕ} {es fs : List Edge} → Moved d es fs → Moved d fs es
moved_back {d = d} m = record {
  old = m.new;
  new = m.old;
  pair = pair_back m.old m.new m.pair;
  near = near_back d _ _ m.near;
  gone = m.come;
  come = m.gone;
  kept = m.back;
  back = m.kept;
}

answered : {d : ℕ} {es fs : List Edge} → Moved d es fs → Answered d es fs
answered {d = d} m e k = ⊎_elim (λ p. rw p (m.new, m.come, m.pair, m.near)) (λ j. (e, j, ends_pair e e refl refl, near_self d e.weight)) (m.kept e k)

-- one moved weight is a retuning
pub moved_retuned : {d : ℕ} {es fs : List Edge} → Moved d es fs → Retuned d es fs
moved_retuned m = record { forth = answered m; back = answered (moved_back m) }

-- ---- a route can neither appear nor go

pub answered_route : {P : Property} {es fs : List Edge} {s t u : ℕ} (d : ℕ) → Answered d es fs → Route P es s t u → (w : ℕ) × Route P fs s t w
answered_route {P = P} d a here = (P.start, here)
answered_route d a (step {e = e} r m) =
    let (w, q) = answered_route d a r in
    let (f, k, pair, near) = a e m in
    let (p, h) = pair_ends e f pair in
    (_, step_for p h k q)

-- ---- best values that each have a route near them on the other side

abbrev Close : Property → ℕ → List Edge → ℕ → ℕ → ℕ → Type 0
Close P k es s t v = (u : ℕ) × Route P es s t u × Near k v u

near_best : {P : Property} {es fs : List Edge} {s t v w : ℕ} (k : ℕ) → Meets P k → Best P es s t v → Best P fs s t w
    → (Route P es s t v → Close P k fs s t v) → (Route P fs s t w → Close P k es s t w) → Near k v w
near_best {P} k meets a b f g = ⊎_elim
    (λ r. let (u, r', j) = f r in ⊎_elim
    (λ q. let (x, q', i) = g q in meets _ _ _ _ (near_back k _ u j) (b.unbettered u r') (near_back k _ x i) (a.unbettered x q'))
    (λ c. absurd (c.0 u r')) b.attained)
    (λ c. ⊎_elim (λ q. let (x, q', i) = g q in absurd (c.0 x q')) (λ e. rw (c.1, e.1) (near_self k P.none)) b.attained) a.attained

-- ---- one weight

module _ {P : Property} (L : Laws P) {d k : ℕ} (S : Steady P d k) where
  open P use {start, along, better}

  -- from near values the same edges lead to near ones
  way_near : {es : List Edge} {s a t u : ℕ} (b : ℕ) → Near k a b → Way P es s a t u → (w : ℕ) × Way P es s b t w × Near k u w
  way_near b h here = (b, here, h)
  way_near b h (step {e = e} {v = v} r m) = let (w, q, j) = way_near b h r in (along w e.weight, step q m, S.along_near v w e.weight j)

  module _ {es fs : List Edge} (weights : Weighed es) (m : Moved d es fs) where
    abbrev rest : List Edge
    rest = keep (among fs) es

    parted : (e : Edge) → Memᴰ e es → Memᴰ e (m.old ∷ rest)
    parted e k = ⊎_elim (λ p. Memᴰ-head p) (λ j. Memᴰ-tail (in_keep (among fs) k (true_exists (same e) j (same_self e)))) (m.kept e k)

    first : (e : Edge) → Memᴰ e rest → Memᴰ e es
    first e k = (keep_in (among fs) es e k).0

    later : (e : Edge) → Memᴰ e rest → Memᴰ e fs
    later e k = among_mem fs e (keep_in (among fs) es e k).1

    -- A best route uses the edge at most once, or there is one as good that does. Come to its tail as before; the moved weight leads from
    -- there to a near value; and on from its head the same edges keep it near. A route that came to the edge twice would be moved
    -- twice as far: so it is by what lies between two visits being left out that values move no further than the weight.
    moved_route : {s t v : ℕ} → Best P es s t v → Route P es s t v → Close P k fs s t v
    moved_route {s} {t} {v} best r = ⊎_elim (λ q. (v, route_map later q, near_self k v))
        (λ (x, a, y, q, h).
        let good : v ≡ y = L.antisymmetric v y h (best.unbettered y (way_join L (step (route_map first a) m.gone) (route_map first q))) in
        let (w, q', j) = way_near (along x m.new.weight) (S.weight_near x _ _ m.near) q in
        let (p, o) = pair_ends m.old m.new m.pair in
        (w, way_join L (step_for p o m.come (route_map later a)) (route_map later q'), rw good j))
        (once L m.old rest (λ e k. ⊎_elim (λ p. rw p (weights m.old m.gone)) (λ j. weights e (first e j)) (Memᴰ-cases_cons k)) s start L.start_fits (route_map parted r))

  pub moved_near : {es fs : List Edge} {s t v w : ℕ} → Weighed es → Weighed fs → Moved d es fs → Best P es s t v → Best P fs s t w → Near k v w
  moved_near f g m a b = near_best k S.near_meets a b (moved_route f m a) (moved_route g (moved_back m) b)

-- ---- weights, one after the other

moved_weighed : {d : ℕ} {es fs : List Edge} → Weighed es → (m : Moved d es fs) → m.new.weight ≤ M → Weighed fs
moved_weighed f m h e k = ⊎_elim (λ p. rw p h) (λ j. f e j) (m.back e k)

module _ {P : Property} (L : Laws P) (k : ℕ → ℕ) (S : (d : ℕ) → Steady P d (k d)) (adds : (d e : ℕ) → k (d + e) ≡ k d + k e) where
  -- each move has best values of its own between it and the next
  pub moves_near : {d : ℕ} {es fs : List Edge} {s t v w : ℕ} → Weighed es → Moves d es fs → Best P es s t v → Best P fs s t w → Near (k d) v w
  moves_near f still a b = rw (best_same L a b) (near_self _ _)
  moves_near {s = s} {t = t} {v = v} {w = w} f (move {d = c} {k = d} {fs = gs} m h ms) a b =
      let g = moved_weighed f m h in
      let (u, z) = best_some L gs g s t in
      rw (adds c d) (near_on (k c) (k d) v u w (moved_near L (S c) f g m a z) (moves_near g ms z b))

-- ---- any weights, where near values stay near along edges of near weights

module _ {P : Property} {d k : ℕ} (E : Even P d k) where
  answered_near : {es fs : List Edge} {s t v : ℕ} → Answered d es fs → Route P es s t v → Close P k fs s t v
  answered_near a here = (P.start, here, near_self k P.start)
  answered_near a (step {e = e} {v = v} r m) =
      let (w, q, j) = answered_near a r in
      let (f, l, pair, near) = a e m in
      let (p, h) = pair_ends e f pair in
      (_, step_for p h l q, E.along_even v w e.weight f.weight j near)

  pub retuned_near : {es fs : List Edge} {s t v w : ℕ} → Retuned d es fs → Best P es s t v → Best P fs s t w → Near k v w
  retuned_near m a b = near_best k E.near_meets a b (answered_near m.forth) (answered_near m.back)

-- ---- record by record

pub moved_cons : {d : ℕ} {es fs : List Edge} (x : Edge) → Moved d es fs → Moved d (x ∷ es) (x ∷ fs)
moved_cons x m = record {
  old = m.old;
  new = m.new;
  pair = m.pair;
  near = m.near;
  gone = Memᴰ-tail m.gone;
  come = Memᴰ-tail m.come;
  kept = λ e k. ⊎_elim (λ p. inr (Memᴰ-head p)) (λ j. ⊎_elim inl (λ z. inr (Memᴰ-tail z)) (m.kept e j)) (Memᴰ-cases_cons k);
  back = λ e k. ⊎_elim (λ p. inr (Memᴰ-head p)) (λ j. ⊎_elim inl (λ z. inr (Memᴰ-tail z)) (m.back e j)) (Memᴰ-cases_cons k);
}

moves_cons : {d : ℕ} {es fs : List Edge} (x : Edge) → Moves d es fs → Moves d (x ∷ es) (x ∷ fs)
unfolding moved_cons
moves_cons x still = still
moves_cons x (move m h ms) = move (moved_cons x m) h (moves_cons x ms)

pub moved_head : (d : ℕ) (e f : Edge) (es : List Edge) → same_pair e f ≡ true → Near d e.weight f.weight → Moved d (e ∷ es) (f ∷ es)
moved_head d e f es pair near = record {
  old = e;
  new = f;
  pair = pair;
  near = near;
  gone = Memᴰ-head refl;
  come = Memᴰ-head refl;
  kept = λ x k. ⊎_elim inl (λ j. inr (Memᴰ-tail j)) (Memᴰ-cases_cons k);
  back = λ x k. ⊎_elim inl (λ j. inr (Memᴰ-tail j)) (Memᴰ-cases_cons k);
}

-- the weights of a zone move one after the other ..
pub zone_moves : {k d : ℕ} {es fs : List Edge} → Weighed fs → Zone k d es fs → Moves k es fs
unfolding moved_head
zone_moves f ends = still
zone_moves f (next {e = e} {f = x} {es = es} c pair near z) =
    move (moved_head c e x es pair near) (f x (Memᴰ-head refl)) (moves_cons x (zone_moves (λ y m. f y (Memᴰ-tail m)) z))

wider : (c d v w : ℕ) → c ≤ d → Near c v w → Near d v w
wider c d v w h (a, b) = (omega arith, omega arith)

zone_answered : {k d : ℕ} {es fs : List Edge} → Zone k d es fs → Answered d es fs
zone_answered ends e m = absurd (Memᴰ-not_nil m)
zone_answered (next {d = d} {e = o} {f = x} c pair near z) e m = ⊎_elim
    (λ p. rw p (x, Memᴰ-head refl, pair, wider c (max c d) o.weight x.weight (omega arith) near))
    (λ j. let (y, k, q, h) = zone_answered z e j in (y, Memᴰ-tail k, q, wider d (max c d) e.weight y.weight (omega arith) h))
    (Memᴰ-cases_cons m)

zone_back : {k d : ℕ} {es fs : List Edge} → Zone k d es fs → Zone k d fs es
zone_back ends = ends
zone_back (next {e = e} {f = f} c pair near z) = next c (pair_back e f pair) (near_back c e.weight f.weight near) (zone_back z)

-- .. and all at once
pub zone_retuned : {k d : ℕ} {es fs : List Edge} → Zone k d es fs → Retuned d es fs
zone_retuned z = record { forth = zone_answered z; back = zone_answered (zone_back z) }
