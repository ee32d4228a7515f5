-- Best routes edge by edge: which edges of a list they keep to, and how many they need. Assumes nothing.
--
--   own P v e == the own value of the edge e, from the source's value on, is no worse than v
--   owned t   == the edges whose own value is no worse than the best value of t
--   tights    == the tight edges
use Rattle.property.proofs.Basics.{◌≡◌, sym, ap, ◌∙◌, ⊎_elim, ◌↔◌, ◌≢◌, Bool, false, not, true≢false, List, Memᴰ, ℕ, suc, ◌≤◌, ◌<◌, arith, length, eqb-true, eq-eqb, not-true, ltb-false}
use Rattle.property.specs.Property.{M, Property, bfs}
use Rattle.property.specs.Laws.{Laws}
use Rattle.property.proofs.Tests.{is_false}
use Rattle.property.proofs.RouteLaws.{Strict, Selects}
use Rattle.graph.specs.Edge.{Edge, keep}
use Rattle.graph.specs.Route.{Route, here, step, Best}
use Rattle.graph.specs.Leads.{Leads, stop, on, value_along, BestLeads}
use Rattle.graph.proofs.Edges.{keep_in, in_keep}
use Rattle.graph.proofs.Order.{Within}
use Rattle.run.specs.Run.{word, tight}
use Rattle.theory.proofs.Value.{value_fits, value_after, best_settled}
use Rattle.theory.proofs.Exists.{best_same}
use Rattle.theory.proofs.Tight.{source_word}
use Rattle.theory.proofs.Leads.{leads_map, leads_route, route_leads, leads_best, along_after, along_none, count_along}

abbrev pub own : Property → ℕ → Edge → Bool
own P v e = not (P.better v (P.along P.start e.weight))

module _ {P : Property} (L : Laws P) (es : List Edge) (s n : ℕ) (inside : Within n es) (ws : List ℕ) (best : (t : ℕ) → Best P es s t (word P ws t)) where
  open P use {start, none, along, better}

  -- a route is best where its value is the best value
  best_value : {t : ℕ} {qs : List Edge} → BestLeads P es s t qs → value_along P start qs ≡ word P ws t
  best_value {t} b = best_same L (leads_best.0 b).1 (best t)

  value_best : {t : ℕ} {qs : List Edge} → Leads es s qs t → value_along P start qs ≡ word P ws t → BestLeads P es s t qs
  value_best {t} l z = leads_best.1 (l, rw z (best t))

  -- ---- where a value is that of one of its edges

  abbrev pub owned : ℕ → List Edge
  owned t = keep (own P (word P ws t)) es

  own_on : (t : ℕ) {u x : ℕ} {qs : List Edge} → Route P es s u x → Leads es u qs t → value_along P x qs ≡ word P ws t → Leads (owned t) u qs t
  unfolding value_along
  own_on t r stop z = stop
  own_on t {x = x} r (on {e = e} {ps = ps} m l) z =
      let a : better (word P ws t) (along x e.weight) ≡ false = rw z at (along_after L inside (value_fits L es s n inside (step r m)) l) in
      let b : better (along x e.weight) (along start e.weight) ≡ false = L.along_monotone _ _ _ (value_after L es s n inside r) in
      on (in_keep (own P (word P ws t)) m (ap not (L.transitive _ _ _ b a))) (own_on t (step r m) l z)

  own_value : Selects P → (v : ℕ) (xs : List Edge) → ((e : Edge) → Memᴰ e xs → better v (along start e.weight) ≡ false) → {t u x : ℕ} {qs : List Edge}
      → better v x ≡ false → Leads xs u qs t → better v (value_along P x qs) ≡ false
  unfolding value_along
  own_value S v xs g h stop = h
  own_value S v xs g {x = x} h (on {e = e} m l) = own_value S v xs g (S.along_selects _ _ e.weight h (g e m)) l

  -- On a best route an edge's own value is no worse than the best value: with x before the edge, x is no better than the source's value,
  -- so the edge brings it to no better than its own value, and the rest never betters. The other way about, where the own values of all
  -- edges of a route are no worse than the best value, neither is the route's; and no route is better.
  pub owned_best : Selects P → {t : ℕ} {qs : List Edge} → word P ws t ≢ none → BestLeads P es s t qs ↔ Leads (owned t) s qs t
  owned_best S {t} {qs} d = (
    λ b. own_on t here b.leads (best_value b),
    λ l. let k = leads_map (λ e m. (keep_in (own P (word P ws t)) es e m).0) l in
        value_best k (L.antisymmetric _ _ ((best t).unbettered _ (leads_route here k)) (own_value S (word P ws t) (owned t) (λ e m. not-true _ (keep_in (own P (word P ws t)) es e m).1) (⊎_elim (λ r. value_after L es s n inside r) (λ c. absurd (d c.1)) (best t).attained) l)),
  )

  -- ---- where each edge makes a value worse

  abbrev pub tights : List Edge
  tights = keep (tight P ws) es

  tight_on : Strict P → (t : ℕ) → word P ws t ≢ none → {u x : ℕ} {qs : List Edge} → Route P es s u x → Leads es u qs t → value_along P x qs ≡ word P ws t
      → (x ≡ word P ws u) × Leads tights u qs t
  unfolding value_along
  tight_on S t d r stop z = (z, stop)
  tight_on S t d {x = x} r (on {e = e} {ps = ps} m l) z =
      let (q, k) = tight_on S t d (step r m) l z in
      let p : x ≡ word P ws e.tail = L.antisymmetric _ _ ((best e.tail).unbettered x r) (is_false _ (λ h.
      true≢false (sym (S.along_strict x (word P ws e.tail) e.weight h (λ c. d (sym z ∙ ap (λ y. value_along P y ps) c ∙ along_none L inside l)))
      ∙ ap (better (along (word P ws e.tail) e.weight)) q ∙ best_settled L es s n inside ws best e m))) in
      (p, on (in_keep (tight P ws) m (eq-eqb _ _ (ap (λ y. along y e.weight) (sym p) ∙ q))) k)

  tight_value : (t : ℕ) {u x : ℕ} {qs : List Edge} → x ≡ word P ws u → Leads tights u qs t → value_along P x qs ≡ word P ws t
  unfolding value_along
  tight_value t p stop = p
  tight_value t p (on {e = e} m l) =
      tight_value t (ap (λ y. along y e.weight) p ∙ eqb-true _ _ (keep_in (tight P ws) es e m).1) l

  -- On a best route every edge is tight, from its end back: where the value x before an edge were not the best value of its tail, that
  -- best value would better the head's. Only where no route comes of x could the two come to the same, and the route has a value. The
  -- other way about, along tight edges each value is the best one.
  pub tights_best : Strict P → {t : ℕ} {qs : List Edge} → word P ws t ≢ none → BestLeads P es s t qs ↔ Leads tights s qs t
  tights_best S {t} d = (
    λ b. (tight_on S t d here b.leads (best_value b)).1,
    λ l. value_best (leads_map (λ e m. (keep_in (tight P ws) es e m).0) l) (tight_value t (sym (source_word L es s n inside ws best)) l),
  )

-- ---- the fewest edges on to t

module _ (ks : List Edge) (t : ℕ) (hs : List ℕ) (best : (u : ℕ) → Best bfs ks u t (word bfs hs u)) where
  pub hops_least : {u : ℕ} {rs : List Edge} → Leads ks u rs t → word bfs hs u ≤ length rs
  hops_least {u} {rs} l =
      let a = ltb-false (value_along bfs 0 rs) (word bfs hs u) ((best u).unbettered _ (leads_route here l)) in
      omega (arith, count_along 0 rs (omega arith))

  pub hops_attained : (u : ℕ) → word bfs hs u < M → (rs : List Edge) × Leads ks u rs t × (length rs ≡ word bfs hs u)
  hops_attained u h = ⊎_elim (λ r. let (rs, l, z) = route_leads r in (rs, l, (let y = count_along 0 rs (omega arith) in omega arith)))
      (λ c. let z = c.1 in absurd (omega arith)) (best u).attained

  -- the first edge of a route with the fewest edges leads to a vertex that needs one less
  pub hop_down : {e : Edge} {rs : List Edge} (k : ℕ) → k < M → Memᴰ e ks → Leads ks e.head rs t → length rs ≡ k → word bfs hs e.tail ≡ suc k
      → word bfs hs e.head ≡ k
  hop_down {e} k h m l p q =
      let a = hops_least l in
      let (qs, j, z) = hops_attained e.head (omega arith) in
      let b = hops_least (on m j) in
      omega arith
