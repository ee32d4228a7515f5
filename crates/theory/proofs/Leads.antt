-- Routes edge by edge against routes by their value; there is one preferred route only, by its vertices. Assumes nothing.
--
--   NoLater s ps qs == of two routes from s, ps has no more edges than qs, and where it has as many, qs is not lower
--   Least es s t ps == the edges ps lead from s to t, and are no later than any others of es that do
use Rattle.property.proofs.Basics.{◌≡◌, refl, sym, ap, ◌∙◌, inl, ◌↔◌, false, ◌&&◌, List, [], ◌∷◌, ◌++◌, Memᴰ, ℕ, ◌+◌, min, ◌≤◌, arith, length, length-map, eqb, ltb, ltb-false, eq-eqb}
use Rattle.property.specs.Property.{M, Property, plus, bfs, ssr}
use Rattle.property.specs.Laws.{Laws}
use Rattle.graph.specs.Edge.{Edge}
use Rattle.graph.specs.Route.{Route, here, step, Best}
use Rattle.graph.specs.Leads.{Leads, stop, on, visited, value_along, lower, BestLeads, Preferred}
use Rattle.graph.proofs.Tests.{neither}
use Rattle.graph.proofs.Order.{Within}

-- ---- routes by their edges, and by their value

pub leads_map : {es fs : List Edge} {s t : ℕ} {ps : List Edge} → ((e : Edge) → Memᴰ e es → Memᴰ e fs) → Leads es s ps t → Leads fs s ps t
leads_map f stop = stop
leads_map f (on {e = e} m l) = on (f e m) (leads_map f l)

-- a route goes on along an edge from its end
pub leads_snoc : {es : List Edge} {s : ℕ} {ps : List Edge} {e : Edge} {u : ℕ} → Leads es s ps u → u ≡ e.tail → Memᴰ e es → Leads es s (ps ++ e ∷ []) e.head
leads_snoc stop p m = rw p (on m stop)
leads_snoc (on k l) p m = on k (leads_snoc l p m)

pub leads_none : {es ps : List Edge} {s t : ℕ} → Leads es s ps t → length ps ≤ 0 → (ps ≡ []) × (s ≡ t)
leads_none stop h = (refl, refl)
leads_none (on i l) h = absurd (omega arith)

value_snoc : (P : Property) (v : ℕ) (ps : List Edge) (e : Edge) → value_along P v (ps ++ e ∷ []) ≡ P.along (value_along P v ps) e.weight
unfolding value_along
value_snoc P v [] e = refl
value_snoc P v (x ∷ ps) e = value_snoc P (P.along v x.weight) ps e

pub leads_route : {P : Property} {es : List Edge} {s u x t : ℕ} {qs : List Edge} → Route P es s u x → Leads es u qs t → Route P es s t (value_along P x qs)
unfolding value_along
leads_route r stop = r
leads_route r (on m l) = leads_route (step r m) l

pub route_leads : {P : Property} {es : List Edge} {s t v : ℕ} → Route P es s t v → (ps : List Edge) × Leads es s ps t × (value_along P P.start ps ≡ v)
unfolding value_along
route_leads here = ([], stop, refl)
route_leads {P} (step {e = e} r m) =
    let (ps, l, z) = route_leads r in
    (ps ++ e ∷ [], leads_snoc l refl m, value_snoc P P.start ps e ∙ ap (λ x. P.along x e.weight) z)

-- a route that none betters is one whose value is best
pub leads_best : {P : Property} {es : List Edge} {s t : ℕ} {ps : List Edge}
    → BestLeads P es s t ps ↔ (Leads es s ps t × Best P es s t (value_along P P.start ps))
leads_best {P} {es} {s} {t} {ps} = (
  λ b. (
    b.leads,
    record {
      unbettered = λ u r. let (qs, l, z) = route_leads r in rw z at (b.unbettered qs l);
      attained = inl (leads_route here b.leads);
    },
  ),
  λ c. record { leads = c.0; unbettered = λ qs l. c.1.unbettered _ (leads_route here l) },
)

-- ---- values along edges

module _ {P : Property} (L : Laws P) {es : List Edge} {n : ℕ} (inside : Within n es) where
  -- the rest of a route never betters a value ..
  pub along_after : {u x t : ℕ} {ps : List Edge} → x ≤ M → Leads es u ps t → P.better (value_along P x ps) x ≡ false
  unfolding value_along
  along_after h stop = L.irreflexive _
  along_after {x = x} h (on {e = e} m l) =
      L.transitive _ _ _ (L.along_no_better x e.weight h) (along_after (L.along_fits _ _ h (inside.weights e m)) l)

  -- .. and leads on from no route to no route
  pub along_none : {u t : ℕ} {ps : List Edge} → Leads es u ps t → value_along P P.none ps ≡ P.none
  unfolding value_along
  along_none stop = refl
  along_none (on {e = e} {ps = ps} m l) = ap (λ x. value_along P x ps) (L.along_none e.weight (inside.weights e m)) ∙ along_none l

-- the number of edges, where it is below M
pub count_along : (x : ℕ) (ps : List Edge) → x ≤ M → value_along bfs x ps ≡ min (x + length ps) M
unfolding value_along
count_along x [] h = omega arith
count_along x (e ∷ ps) h = let z = count_along (plus x 1) ps (omega arith) in omega arith

-- reach stays as it is
pub reach_along : (x : ℕ) (ps : List Edge) → value_along ssr x ps ≡ x
unfolding value_along
reach_along x [] = refl
reach_along x (e ∷ ps) = reach_along x ps

-- ---- the order of routes

abbrev pub NoLater : ℕ → List Edge → List Edge → Type 0
NoLater s ps qs = (length ps ≤ length qs) × (length qs ≡ length ps → lower (visited s qs) (visited s ps) ≡ false)

abbrev pub Least : List Edge → ℕ → ℕ → List Edge → Type 0
Least es s t ps = Leads es s ps t × ((qs : List Edge) → Leads es s qs t → NoLater s ps qs)

-- ---- one preferred route

pub lower_same : (us vs : List ℕ) → length us ≡ length vs → lower us vs ≡ false → lower vs us ≡ false → us ≡ vs
unfolding lower
lower_same [] [] h a b = refl
lower_same [] (v ∷ vs) h a b = absurd (omega arith)
lower_same (u ∷ us) [] h a b = absurd (omega arith)
lower_same (u ∷ us) (v ∷ vs) h a b =
    let x = neither (ltb u v) (eqb u v && lower us vs) a in
    let y = neither (ltb v u) (eqb v u && lower vs us) b in
    let k = ltb-false u v x.0 in
    let l = ltb-false v u y.0 in
    let p : u ≡ v = omega arith in
    let q = lower_same us vs (omega arith) (rw (eq-eqb u v p) at x.1) (rw (eq-eqb v u (sym p)) at y.1) in
    λ i. p i ∷ q i

-- both are fewest, so they have equally many edges; and neither is lower
pub preferred_unique : {P : Property} {es : List Edge} {s t : ℕ} {ps qs : List Edge} → Preferred P es s t ps → Preferred P es s t qs → visited s ps ≡ visited s qs
preferred_unique {s = s} {ps = ps} {qs = qs} a b =
    let k = a.fewest qs b.best in
    let l = b.fewest ps a.best in
    lower_same (visited s ps) (visited s qs) (omega (arith, length-map ps (λ e. e.head), length-map qs (λ e. e.head)))
    (b.lowest ps a.best (omega arith)) (a.lowest qs b.best (omega arith))
