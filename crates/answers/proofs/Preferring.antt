-- Which routes are preferred: those with the fewest and lowest of the eligible edges, and for handovers and reach of all edges; the route that is
-- followed is one, and there is one exactly where the best value is not the no-route word. Assumes nothing.
--
--   Unbettered P ps qs == the value of qs is no better than that of ps
--   Asked n es p s t   == what an accepted request has: few vertices, sound edges, a property, source and target
--   by b               == the eligible edges of a property that is strict, or that selects
use Rattle.property.proofs.Basics.{◌≡◌, refl, sym, ap, subst, ◌⊎◌, inl, inr, ⊎_elim, ◌↔◌, ◌≢◌, Bool, false, cond, List, map, ℕ, ◌≤◌, ◌<◌, arith, length, leb, le-ltb, leb-true, leb-false}
use mathlib.Core.List.{tail-eq_of_cons-eq}
use Rattle.property.specs.Property.{Property, bfs, property, properties}
use Rattle.property.proofs.Instances.{bfs_laws, bfs_joins, property_laws, property_rest}
use Rattle.property.proofs.Tests.{by_test}
use Rattle.property.proofs.RouteLaws.{property_strict, property_selects}
use Rattle.graph.specs.Limits.{max_vertices}
use Rattle.graph.specs.Edge.{Edge, reverse, keep}
use Rattle.graph.specs.Table.{Columns, edges_of}
use Rattle.graph.specs.Route.{here, Best}
use Rattle.graph.specs.Leads.{Leads, value_along, BestLeads, Preferred}
use Rattle.graph.proofs.Order.{Sound, Within, within, accept_rules}
use Rattle.graph.proofs.Keeps.{keep_sound}
use Rattle.run.specs.Run.{word, tight}
use Rattle.run.specs.Start.{values_from}
use Rattle.theory.proofs.Walk.{walk_of}
use Rattle.theory.proofs.Reverse.{within_reverse, forth, reversed_best}
use Rattle.theory.proofs.Hops.{values_best, hops_few}
use Rattle.theory.proofs.Routed.{best_routed}
use Rattle.theory.proofs.Leads.{Least, leads_route, route_leads, leads_best, count_along, reach_along}
use Rattle.theory.proofs.Kept.{own, owned_best, tights_best}
use Rattle.answers.specs.Routing.{Request, eligible, best_word, candidates, hops, preferred}
use Rattle.answers.proofs.Parallel.{Light, light_lowest}
use Rattle.answers.proofs.Follow.{followed_least}

-- ---- where the value goes by the number of edges

abbrev Unbettered : Property → List Edge → List Edge → Type 0
Unbettered P ps qs = P.better (value_along P P.start qs) (value_along P P.start ps) ≡ false

-- handovers are that number, up to M, and reach is always what it is at the source: so a route of no more edges is no worse
shorter_unbettered : (p : ℕ) → (p ≡ 2) ⊎ (4 < p) → (ps qs : List Edge) → length ps ≤ length qs
    → Unbettered (property p) ps qs
unfolding property
shorter_unbettered p (inl z) ps qs h = rw z
    (le-ltb (value_along bfs 0 qs) (value_along bfs 0 ps) (omega (arith, count_along 0 ps (omega arith), count_along 0 qs (omega arith))))
shorter_unbettered p (inr l) ps qs h =
    rw (property_rest p ((((tt, λ z. omega arith), λ z. omega arith), λ z. omega arith), λ z. omega arith), reach_along 1 ps, reach_along 1 qs)

-- so one with the fewest edges is best, whichever edges the best routes keep to
pub fewest_preferred : (p : ℕ) → (p ≡ 2) ⊎ (4 < p) → {es : List Edge} {s t : ℕ} {ps : List Edge} → Least es s t ps → Light es ps → Preferred (property p) es s t ps
fewest_preferred p kind {ps = ps} (l, least) w = record {
  best = record { leads = l; unbettered = λ qs k. shorter_unbettered p kind ps qs (least qs k).0 };
  fewest = λ qs b. (least qs b.leads).0;
  lowest = λ qs b. (least qs b.leads).1;
  lightest = λ qs b v. light_lowest l b.leads refl (tail-eq_of_cons-eq (sym v)) w;
}

-- ---- what an accepted request has

pub record Asked (n : ℕ) (es : List Edge) (p s t : ℕ) : Type 0 where
  pub few : n ≤ max_vertices
  pub sound : Sound n es
  pub least : 0 < p
  pub most : p ≤ properties
  pub source : s < n
  pub target : t < n

module _ {n : ℕ} {es : List Edge} {p s t : ℕ} (g : Asked n es p s t) where
  abbrev P : Property
  P = property p

  abbrev ws : List ℕ
  ws = values_from P es n s

  abbrev v : ℕ
  v = word P ws t

  abbrev ks : List Edge
  ks = keep (eligible p ws v) es

  inside : Within n es
  inside = within n es g.sound

  bests : (u : ℕ) → Best P es s u (word P ws u)
  bests = values_best (property_laws p) es s n inside g.source

  -- ---- best routes are the routes of eligible edges

  abbrev by : Bool → List Edge
  by b = keep (λ e. cond b (tight P ws e) (own P v e)) es

  -- Time and handovers grow with each edge, so each edge of a best route is tight. Headroom, worst stretch and reach are the value of one
  -- of their edges, so each edge of a best route has an own value that is no worse. The other way about likewise.
  pub eligible_best : {qs : List Edge} → v ≢ P.none → BestLeads P es s t qs ↔ Leads ks s qs t
  eligible_best {qs} d = by_test (leb p 2)
      (λ z. subst Same (sym (ap by z)) (tights_best (property_laws p) es s n inside ws bests (property_strict p g.least (leb-true _ _ z)) d))
      (λ z. subst Same (sym (ap by z)) (owned_best (property_laws p) es s n inside ws bests (property_selects p (leb-false _ _ z)) d))
    where
      Same : List Edge → Type 0
      Same xs = BestLeads P es s t qs ↔ Leads xs s qs t

  -- those are best with any twins that are eligible, so the lightest of these, taken all at once, are the lowest at each place
  pub least_preferred : {ps : List Edge} → v ≢ P.none → Least ks s t ps → Light ks ps → Preferred P es s t ps
  least_preferred d (l, least) w = record {
    best = (eligible_best d).1 l;
    fewest = λ qs b. (least qs ((eligible_best d).0 b)).0;
    lowest = λ qs b. (least qs ((eligible_best d).0 b)).1;
    lightest = λ qs b v. light_lowest l ((eligible_best d).0 b) refl (tail-eq_of_cons-eq (sym v)) w;
  }

  -- ---- whether there is a route

  pub eligible_leads : v ≢ P.none → (qs : List Edge) × Leads ks s qs t
  eligible_leads d = ⊎_elim (λ r. let (qs, l, z) = route_leads r in (qs, (eligible_best d).0 (leads_best.1 (l, rw z (bests t))))) (λ c. absurd (d c.1)) (bests t).attained

  pub unrouted : (v ≡ P.none) ↔ ((ps : List Edge) → Leads es s ps t → ⊥)
  unrouted =
      let r = best_routed p n es g.few (accept_rules n es g.sound) s t v g.source (bests t) in
      (λ z ps l. r.0 z _ (leads_route here l), λ d. r.1 (λ u q. let (ps, l, z) = route_leads q in d ps l))

-- ---- the route that is written

module _ (n : ℕ) (cs : Columns) (m : ℕ) (q : Request) (g : Asked n (edges_of cs m) q.property q.source q.target) where
  kept : Sound n (candidates n cs m q)
  kept = keep_sound _ n (edges_of cs m) g.sound

  back : Within n (map reverse (candidates n cs m q))
  back = within_reverse n (candidates n cs m q) (within n (candidates n cs m q) kept)

  hops_back : (u : ℕ) → Best bfs (map reverse (candidates n cs m q)) q.target u (word bfs (hops n cs m q) u)
  hops_back = values_best bfs_laws (map reverse (candidates n cs m q)) q.target n back g.target

  few_hops : {qs : List Edge} → Leads (candidates n cs m q) q.source qs q.target → word bfs (hops n cs m q) q.source < n
  few_hops l =
      hops_few (map reverse (candidates n cs m q)) q.target n back g.target (hops n cs m q) hops_back (walk_of (forth bfs_joins (leads_route here l)))

  -- There is a best route, so one of eligible edges, and the hops of the source are below n. What is followed has as many edges as that, and
  -- of the eligible routes with so many none is lower; and eligible routes are the best routes.
  pub preferred_holds : best_word n cs m q ≢ (property q.property).none
      → Preferred (property q.property) (edges_of cs m) q.source q.target (preferred n cs m q) × (length (preferred n cs m q) < n)
  preferred_holds d =
      let h = few_hops (eligible_leads g d).1 in
      let (z, w, y) = followed_least n (candidates n cs m q) kept q.target (hops n cs m q) (λ u. reversed_best bfs_joins (hops_back u)) q.source (omega (arith, g.few)) in
      (least_preferred g d z w, omega arith)
