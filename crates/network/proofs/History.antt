-- The claim over histories, proved. Assumes nothing.
use Rattle.property.proofs.Basics.{refl, sym, List, [], append-nil, ℕ, suc, ◌%◌}
use Rattle.property.specs.Property.{properties}
use Rattle.property.proofs.Instances.{property_joins}
use Rattle.theory.proofs.Reverse.{reversed_best}
use Rattle.network.specs.Network.{Network, edges_in}
use Rattle.network.specs.History.{Holds, moment, History, BestOverRoutes}
use Rattle.network.proofs.Moment.{Good, good_count, steps}
use Rattle.network.proofs.Query.{query_good}
use Rattle.network.proofs.Never.{open_judged, query_judged, begun}

-- backward rows hold best values of the reversed edges, which are best values the other way round
pub good_holds : (n : ℕ) (ls : List ℕ) (w : Network) → Good n ls w → Holds n ls (edges_in w) w
good_holds n ls w g = record {
  records = refl;
  count = sym (good_count n ls w g);
  rows = record {
    forward = λ r t h k. g.forward r h t;
    backward = λ r t h k. reversed_best (property_joins (suc (r % properties))) (g.backward r h t);
  };
  judged = λ q out. query_judged n ls w q out g;
  query = query_good n ls w g;
}

-- Demand 3. An opening is turned back for 1 to 4 alone. An accepted one brings the invariant about, and each batch of the list, accepted or refused, keeps it; so at each moment
-- it holds of what the caller has, and the edges there are the network as it is now. What is claimed of a moment follows from the
-- invariant alone: rows are best words, and a query on best rows gives bounds and best words. What is claimed of a batch is what one
-- step says of it. So nothing is reckoned from an earlier run: only from routes, and from the batches.
pub history : History
history n ls w = record {
  judged = open_judged n ls w;
  later = λ h bs. record {
    holds = λ past rest e. let z = begun n ls w h past in rw z.1 at (good_holds n ls (moment n ls w past) z.0);
    applied = λ past rest b e. let z = begun n ls w h past in rw z.1 at (steps n ls (moment n ls w past) b z.0).applied;
  };
}

-- Demand 2 is a part of it: at the last moment of the list, the words of the rows and of accepted queries.
pub best_over_routes : BestOverRoutes
best_over_routes n ls w h bs =
    let s = ((history n ls w).later h bs).holds bs [] (sym (append-nil bs)) in
    record { rows = s.rows; query = λ q out tally e. (s.query q out tally e).best }
