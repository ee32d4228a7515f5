-- The no-route word stands exactly where there is no route: the claim, proved. Assumes nothing.
use Rattle.property.proofs.Basics.{◌≡◌, List, ℕ, suc, ◌%◌, ◌≤◌, ◌<◌, length, ltb, eqb, ltb-false}
use Rattle.property.specs.Property.{properties}
use Rattle.frontier.specs.Waiting.{any_of}
use Rattle.graph.specs.Limits.{max_vertices}
use Rattle.graph.specs.Refusal.{accept, accepted, refuse_if}
use Rattle.graph.specs.Table.{size}
use Rattle.graph.proofs.Tests.{neither}
use Rattle.graph.proofs.Verdicts.{then_accept, if_accept, reply_accepted}
use Rattle.graph.proofs.Order.{accept_rules}
use Rattle.theory.proofs.Routed.{best_routed}
use Rattle.run.specs.Run.{Tally}
use Rattle.network.specs.Network.{Network, edges_in}
use Rattle.network.specs.Query.{Query, Words, at_end, query_faults, query_verdict, query_call}
use Rattle.network.specs.History.{moment}
use Rattle.network.proofs.Items.{table_sound}
use Rattle.network.proofs.Rows.{source}
use Rattle.network.proofs.Query.{query_request}
use Rattle.network.proofs.Never.{begun}
use Rattle.network.proofs.History.{best_over_routes}
use Rattle.network.specs.Routed.{WordsRouted}

pub size_few : (n : ℕ) → size n ≡ accept → n ≤ max_vertices
size_few n h = ltb-false max_vertices n (neither (eqb n 0) (ltb max_vertices n) (if_accept _ 1 0 h)).1

-- an accepted query has a vertex for its source
query_source : (n : ℕ) (ls : List ℕ) (w : Network) (q : Query) (out : Words) (tally : Tally) → (query_call n ls w q out).reply ≡ accepted tally → q.source < n
unfolding query_call
query_source n ls w q out tally e =
    let z = reply_accepted (query_verdict n ls w q out) (at_end n ls w q).tally tally e in
    let a = then_accept (query_faults n ls w q (length out.starts) (length out.settled)) (refuse_if (any_of (at_end n ls w q).waiting) 13 0) z.0 in
    (query_request n ls w q (length out.starts) (length out.settled) a.0).2

-- By demand 2 the words are best values, and by the invariant the edges are a table that keeps its rules, of at most 256 vertices. There a
-- best value is the no-route word exactly where there is no route.
pub words_routed : WordsRouted
words_routed n ls w h bs =
    let b = best_over_routes n ls w h bs in
    let z = begun n ls w h bs in
    let g = z.0 in
    let few = size_few n g.sized in
    let m = moment n ls w bs in
    let sound = rw z.1 at (accept_rules n (edges_in m) (table_sound n m.memory.table m.count g.sound).1) in
    record {
      rows = record {
        forward = λ r t k l. best_routed (suc (r % properties)) n _ few sound _ t _ (source n ls g.chosen r k) (b.rows.forward r t k l);
        backward = λ r t k l. best_routed (suc (r % properties)) n _ few sound t _ _ l (b.rows.backward r t k l);
      };
      query = λ q out tally e t l. best_routed q.property n _ few sound _ t _ (query_source n ls m q out tally e) (b.query q out tally e t l);
    }
