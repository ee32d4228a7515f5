-- The no-route word stands exactly where there is no route: on n vertices a best route needs fewer than n edges, and no value of so few
-- edges comes to the no-route word. Assumes nothing.
--
--   Lasting P n w  == routes of fewer than n edges, of weights 1 to w, have values better than no route: `floor k` is a value than
--                     which a route of k edges is no worse
--   Weighty w es   == weights are 1 to w
use Rattle.property.proofs.Basics.{◌≡◌, sym, ◌∙◌, subst, ⊎_elim, true, false, true≢false, List, Memᴰ, ℕ, zero, suc, ◌*◌, ◌≤◌, ◌<◌, arith}
use Rattle.property.specs.Property.{M, plus, Property, bfs, ssr, property}
use Rattle.property.specs.Laws.{Laws}
use Rattle.property.proofs.Instances.{bfs_laws, property_laws}
use Rattle.property.proofs.Tests.{tests}
use Rattle.graph.specs.Limits.{max_vertices, max_weight}
use Rattle.graph.specs.Edge.{Edge}
use Rattle.graph.specs.Route.{Route, here, step, Best}
use Rattle.graph.specs.Routed.{Routed}
use Rattle.graph.proofs.Order.{Sound, Within, within, sound_fit, rules_accept}
use Rattle.run.specs.Run.{word}
use Rattle.run.specs.Start.{values_from}
use Rattle.theory.specs.Routed.{BestRouted}
use Rattle.theory.proofs.Walk.{walk_of}
use Rattle.theory.proofs.Value.{value_fits}
use Rattle.theory.proofs.Hops.{values_best, hops_few}

pub record Lasting (P : Property) (n w : ℕ) : Type 0 where
  pub floor : ℕ → ℕ
  pub floor_start : P.better (floor 0) P.start ≡ false
  pub floor_along : (k v x : ℕ) → v ≤ M → P.better (floor k) v ≡ false → 0 < x → x ≤ w → P.better (floor (suc k)) (P.along v x) ≡ false
  pub floor_holds : (k : ℕ) → k < n → P.better (floor k) P.none ≡ true

-- ---- the five properties, within the limits

ssr_lasting : Lasting ssr max_vertices max_weight
ssr_lasting = record { floor = λ k. 1; floor_start = omega tests; floor_along = omega tests; floor_holds = omega tests }

pub property_lasting : (p : ℕ) → Lasting (property p) max_vertices max_weight
unfolding property
property_lasting zero = ssr_lasting
property_lasting (suc zero) = record { floor = λ k. k * max_weight; floor_start = omega tests; floor_along = omega tests; floor_holds = omega tests }
property_lasting (suc (suc zero)) = record { floor = λ k. k; floor_start = omega tests; floor_along = omega tests; floor_holds = omega tests }
property_lasting (suc (suc (suc zero))) = record { floor = λ k. 1; floor_start = omega tests; floor_along = omega tests; floor_holds = omega tests }
property_lasting (suc (suc (suc (suc zero)))) = record { floor = λ k. max_weight; floor_start = omega tests; floor_along = omega tests; floor_holds = omega tests }
property_lasting (suc (suc (suc (suc (suc k))))) = ssr_lasting

-- ---- what is said of edges

abbrev pub Weighty : ℕ → List Edge → Type 0
Weighty w es = (e : Edge) → Memᴰ e es → (0 < e.weight) × (e.weight ≤ w)

-- the rules of a table keep weights within the limits
pub sound_weighty : (n : ℕ) (es : List Edge) → Sound n es → Weighty max_weight es
sound_weighty n es h e m = let f = sound_fit n es h e m in (f.some_weight, f.weight_most)

module _ {P : Property} (L : Laws P) {m w : ℕ} (lasting : Lasting P m w) (es : List Edge) (n : ℕ) (inside : Within n es) (weights : Weighty w es)
    (few : n ≤ m) (fits : m ≤ M) (s : ℕ) (h : s < n) where
  open P use {start, none, along, better}

  -- the edges of a route of k, by their number, give the property a value that is no worse than the floor of k
  route_floor : {t k : ℕ} → Route bfs es s t k → k < M → (v : ℕ) × Route P es s t v × (better (lasting.floor k) v ≡ false)
  route_floor here l = (start, here, lasting.floor_start)
  route_floor (step {e = e} {v = k} r i) l =
      let z : plus k 1 ≡ suc k = omega arith in
      let (v, q, f) = route_floor r (omega arith) in
      let y = weights e i in (
        along v e.weight,
        step q i,
        subst (λ j. better (lasting.floor j) (along v e.weight) ≡ false) (sym z)
            (lasting.floor_along k v e.weight (value_fits L es s n inside q) f y.0 y.1),
      )

  -- Where there is a route, the best number of edges is below n, so some route of so few edges is better than the no-route word; and the
  -- best value is no worse than that route's. Where there is none, the best value is the no-route word by what a best value is.
  pub value_routed : {t v : ℕ} → Best P es s t v → Routed P es s t v
  value_routed {t} {v} b = (
    λ z u r.
        let hops = values_best bfs_laws es s n inside h in
        let fewer = hops_few es s n inside h (values_from bfs es n s) hops (walk_of r) in
        ⊎_elim
        (λ q. let (x, k, f) = route_floor q (omega arith) in
        let y : better (lasting.floor (word bfs (values_from bfs es n s) t)) v ≡ false = L.transitive _ _ _ (b.unbettered x k) f in
        true≢false (sym (lasting.floor_holds _ (omega arith)) ∙ (rw z at y)))
        (λ c. let y = c.1 in omega arith) (hops t).attained,
    λ d. ⊎_elim (λ r. absurd (d v r)) (λ c. c.1) b.attained,
  )

-- The five properties by number, on a table that keeps its rules: there weights are 1 to 65,535.
pub best_routed : BestRouted
best_routed p n es few rules s t v h b =
    let sound = rules_accept n es rules in
    value_routed (property_laws p) (property_lasting p) es n (within n es sound) (sound_weighty n es sound) few (omega arith) s h b
