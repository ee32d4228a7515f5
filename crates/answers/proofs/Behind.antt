-- The route behind a query's word has that word for its value: the claim, proved. Assumes nothing.
use Rattle.property.proofs.Basics.{⊎_elim}
use Rattle.property.specs.Property.{property}
use Rattle.property.proofs.Instances.{property_laws}
use Rattle.graph.specs.Route.{here}
use Rattle.theory.proofs.Exists.{best_same}
use Rattle.theory.proofs.Leads.{leads_route, route_leads, leads_best}
use Rattle.network.specs.History.{moment}
use Rattle.network.proofs.History.{best_over_routes}
use Rattle.network.proofs.Never.{begun}
use Rattle.network.proofs.Routed.{words_routed}
use Rattle.answers.specs.Behind.{RouteBehind, wanted}
use Rattle.answers.proofs.Routing.{routes_preferred}

-- The table of the network holds its edges. What is accepted there is a best route; by demand 2 the query's word is a best value too, and there is
-- one only. Number 15 comes where there is no route, and there the word is the no-route word, since no best route has that value.
pub route_behind : RouteBehind
route_behind n ls w h bs q words tally e t l out =
    let m = moment n ls w bs in
    let P = property q.property in
    let now = (begun n ls w h bs).1 in
    let b = (best_over_routes n ls w h bs).query q words tally e t l in
    let r = (words_routed n ls w h bs).query q words tally e t l in
    let c = routes_preferred n m.memory.table m.count (wanted q t) out in
    record {
      valued = λ k a.
          let (ps, z) = c.written k a in
          let y = rw now at (leads_best.0 z.route.best) in
          (ps, y.0, z.count, z.vertices, best_same (property_laws q.property) y.1 b);
      served = λ a d. ⊎_elim (λ x. let (ps, l, z) = route_leads x in c.served a ps (rw now l)) (λ z. absurd (d z.1)) b.attained;
      unrouted = λ a.
          let d = rw now at (c.barred a) in
          (λ k. r.1 (λ u x. let (ps, j, z) = route_leads x in d.0 k ps j), λ k. d.1 (λ ps j. r.0 k _ (leads_route here j)));
    }
