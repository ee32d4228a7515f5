-- A best value exists, and there is one only: by recursion on the edges, with no run. Assumes nothing.
--
--   Top P es s v t         == a best way from s to t with v at s, or that there is no way
--   Through P o es s v t u == a way along es to the tail of o, and one along es on from its head, that together are no worse than u
use Rattle.property.proofs.Basics.{◌≡◌, refl, sym, ap, ◌∙◌, ◌⊎◌, inl, inr, ⊎_elim, false, List, [], ◌∷◌, Memᴰ, Memᴰ-head, Memᴰ-tail, Memᴰ-cases_cons, Memᴰ-not_nil, ℕ, ◌≤◌, ℕ_discrete}
use Rattle.property.specs.Property.{M, Property}
use Rattle.property.specs.Laws.{Laws}
use Rattle.property.proofs.Tests.{by_test}
use Rattle.graph.specs.Edge.{Edge}
use Rattle.graph.specs.Route.{Route, here, step, Best}
use Rattle.theory.specs.Best.{Weighed, BestExists, BestUnique}
use Rattle.theory.proofs.Value.{Way, way_fits, way_after}

abbrev Top : Property → List Edge → ℕ → ℕ → ℕ → Type 0
Top P es s v t = ((u : ℕ) × Way P es s v t u × ((w : ℕ) → Way P es s v t w → P.better w u ≡ false)) ⊎ ((w : ℕ) → Way P es s v t w → ⊥)

abbrev pub Through : Property → Edge → List Edge → ℕ → ℕ → ℕ → ℕ → Type 0
Through P o es s v t u =
    (x : ℕ) × Way P es s v o.tail x × (y : ℕ) × Way P es o.head (P.along x o.weight) t y × (P.better u y ≡ false)

-- ---- ways, put together

pub route_map : {P : Property} {es fs : List Edge} {s t u : ℕ} → ((e : Edge) → Memᴰ e es → Memᴰ e fs) → Route P es s t u → Route P fs s t u
route_map f here = here
route_map f (step {e = e} r m) = step (route_map f r) (f e m)

module _ {P : Property} (L : Laws P) where
  open P use {along, better}

  pub way_join : {es : List Edge} {s v h a t u : ℕ} → Way P es s v h a → Way P es h a t u → Way P es s v t u
  way_join r here = r
  way_join r (step q m) = step (way_join r q) m

  -- from a better value the same edges lead to one that is no worse
  way_better : {es : List Edge} {s a t u : ℕ} (b : ℕ) → better a b ≡ false → Way P es s a t u → (w : ℕ) × Way P es s b t w × (better u w ≡ false)
  way_better b h here = (b, here, h)
  way_better b h (step {e = e} r m) = let (w, q, k) = way_better b h r in (along w e.weight, step q m, L.along_monotone _ _ _ k)

  -- ---- one more edge

  module _ (o : Edge) (es : List Edge) (weights : Weighed (o ∷ es)) (s v : ℕ) (fits : v ≤ M) where
    weights' : Weighed es
    weights' e m = weights e (Memᴰ-tail m)

    weight : o.weight ≤ M
    weight = weights o (Memᴰ-head refl)

    abbrev pub Once : ℕ → ℕ → Type 0
    Once t u = Way P es s v t u ⊎ Through P o es s v t u

    -- A way along o ∷ es is one along es, or there is one no worse that uses o once. Where it comes to o for a second time, leave out
    -- what lies between: going along never betters, so the value with which it first came to o's tail was no worse.
    once_more : (e : Edge) (w : ℕ) → Once e.tail w → (e ≡ o) ⊎ Memᴰ e es → Once e.head (along w e.weight)
    once_more e w (inl r) (inr m) = inl (step r m)
    once_more e w (inl r) (inl p) = inr (w, rw (ap (λ z. z.tail) p) at r, along w o.weight, rw p here, rw p (L.irreflexive _))
    once_more e w (inr (x, r, y, q, h)) (inr m) = inr (x, r, along y e.weight, step q m, L.along_monotone _ _ _ h)
    once_more e w (inr (x, r, y, q, h)) (inl p) =
        let f = way_fits L weights' fits r in
        let back = L.transitive _ _ _ (L.along_no_better x o.weight f) (way_after L weights' (L.along_fits _ _ f weight) q) in
        inr (x, r, along x o.weight, rw p here, rw p (L.along_monotone _ _ _ (L.transitive _ _ _ back h)))

    pub once : {t u : ℕ} → Way P (o ∷ es) s v t u → Once t u
    once here = inl here
    once (step {e = e} {v = w} r m) = once_more e w (once r) (Memᴰ-cases_cons m)

    up : {a b t u : ℕ} → Way P es a b t u → Way P (o ∷ es) a b t u
    up r = route_map (λ e m. Memᴰ-tail m) r

    abbrev Via : ℕ → Type 0
    Via t = ((y : ℕ) × Way P (o ∷ es) s v t y × ((u : ℕ) → Through P o es s v t u → better u y ≡ false)) ⊎ ((u : ℕ) → Through P o es s v t u → ⊥)

    -- the best that goes through o: come to its tail with the best value, and go on from its head in the best way
    via : (t : ℕ) → Top P es s v o.tail → ((y : ℕ) → y ≤ M → Top P es o.head y t) → Via t
    via t (inr d) below = inr (λ u z. d z.0 z.1)
    via t (inl (x, r, first)) below = ⊎_elim
        (λ (y, q, last). inl (y, way_join (step (up r) (Memᴰ-head refl)) (up q), λ u z. let (w, q', k) = moved u z in L.transitive _ _ _ (last w q') k))
        (λ d. inr (λ u z. let (w, q, k) = moved u z in d w q)) (below (along x o.weight) (L.along_fits _ _ (way_fits L weights' fits r) weight))
      where
        moved : (u : ℕ) → Through P o es s v t u → (w : ℕ) × Way P es o.head (along x o.weight) t w × (better u w ≡ false)
        moved u (x', r', y, q, h) =
            let (w, q', k) = way_better (along x o.weight) (L.along_monotone _ _ _ (first x' r')) q in
            (w, q', L.transitive _ _ _ k h)

    -- the better of the best along es alone and the best through o
    finer : (t : ℕ) → Top P es s v t → Via t → Top P (o ∷ es) s v t
    finer t (inr a) (inr b) = inr (λ w r. ⊎_elim (a w) (b w) (once r))
    finer t (inl (u, r, first)) (inr b) = inl (u, up r, λ w q. ⊎_elim (first w) (λ z. absurd (b w z)) (once q))
    finer t (inr a) (inl (y, r, first)) = inl (y, r, λ w q. ⊎_elim (λ z. absurd (a w z)) (first w) (once q))
    finer t (inl (u, r, first)) (inl (y, q, second)) = inl (by_test (better u y)
        (λ h. (u, up r, λ w k. ⊎_elim (first w) (λ z. L.transitive _ _ _ (L.asymmetric _ _ h) (second w z)) (once k)))
        (λ h. (y, q, λ w k. ⊎_elim (λ z. L.transitive _ _ _ h (first w z)) (second w) (once k))))

  -- ---- best values

  way_nil : {s v t u : ℕ} → Way P [] s v t u → (s ≡ t) × (better u v ≡ false)
  way_nil here = (refl, L.irreflexive _)
  way_nil (step r m) = absurd (Memᴰ-not_nil m)

  -- By recursion on the edges: with none there is only the way that stays, and with a first edge o the best is the better of the best
  -- along the others and of the best that uses o once.
  top : (es : List Edge) → Weighed es → (s v t : ℕ) → v ≤ M → Top P es s v t
  top [] f s v t h = elim (ℕ_discrete s t) [ yes p ↦ inl (v, rw (← p) here, λ w r. (way_nil r).1) | no d ↦ inr (λ w r. d (way_nil r).0) ]
  top (o ∷ es) f s v t h =
      let g : Weighed es = λ e m. f e (Memᴰ-tail m) in
      finer o es f s v h t (top es g s v t h) (via o es f s v h t (top es g s v o.tail h) (λ y k. top es g o.head y t k))

pub best_some : {P : Property} → Laws P → (es : List Edge) → Weighed es → (s t : ℕ) → (v : ℕ) × Best P es s t v
best_some {P} L es f s t = ⊎_elim (λ (u, r, first). (u, record { unbettered = first; attained = inl r }))
    (λ d. (P.none, record { unbettered = λ w r. absurd (d w r); attained = inr (d, refl) })) (top L es f s P.start t L.start_fits)

-- two best values are values of routes, neither better than the other; or there is no route, and both are none
pub best_same : {P : Property} → Laws P → {es : List Edge} {s t v w : ℕ} → Best P es s t v → Best P es s t w → v ≡ w
best_same L a b = ⊎_elim
    (λ r. ⊎_elim (λ q. L.antisymmetric _ _ (b.unbettered _ r) (a.unbettered _ q)) (λ c. absurd (c.0 _ r)) b.attained)
    (λ c. ⊎_elim (λ q. absurd (c.0 _ q)) (λ d. c.1 ∙ sym d.1) b.attained) a.attained

-- ---- the claims

pub best_exists : BestExists
best_exists P L = best_some L

pub best_unique : BestUnique
best_unique P L es s t v w a b = best_same L a b
