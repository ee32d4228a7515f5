-- The route behind a query's word, on a network of these calls: document 02, Two ("Operators see \"11\" and want the route"). Assumes nothing.
--
--   wanted q t          == the request for the route behind the word of t that the query q gives
--   route_now n w q out == the call of the route on the table of the network w
--   Behind ..           == an accepted route to t has the word of t for its value; and where numbers 1 to 6 let pass, 15 comes at the no-route word, and
--                           every other word has its route
--   RouteBehind          == the claim: after any list of batches, for any accepted query and any vertex
use Rattle.std.specs.Prelude.{◌≡◌, ◌≢◌, ◌↔◌, List, ℕ, suc, ◌<◌, length}
use Rattle.property.specs.Property.{property}
use Rattle.graph.specs.Refusal.{accept, accepted, refused, Outcome, over}
use Rattle.graph.specs.Edge.{Edge}
use Rattle.graph.specs.Leads.{Leads, visited, value_along}
use Rattle.run.specs.Run.{Tally, word}
use Rattle.network.specs.Network.{Network, faults}
use Rattle.network.specs.Query.{Query, Words, query_call}
use Rattle.network.specs.Change.{Change}
use Rattle.network.specs.History.{moment, edges_now}
use Rattle.answers.specs.Routing.{Request, Answer, route_call, other_faults}

abbrev pub wanted : Query → ℕ → Request
wanted q t = record { property = q.property; source = q.source; target = t }

abbrev pub route_now : ℕ → Network → Request → Answer → Outcome ℕ Answer
route_now n w q out = route_call n w.memory.table w.count q out

pub record Behind (n : ℕ) (es : List Edge) (w : Network) (q : Query) (t v : ℕ) (out : Answer) : Type 0 where
  pub valued : (k : ℕ) → (route_now n w (wanted q t) out).reply ≡ accepted k
      → (ps : List Edge) × Leads es q.source ps t × (k ≡ suc (length ps)) × ((route_now n w (wanted q t) out).memory.vertices ≡ over (visited q.source ps) out.vertices)
      × (value_along (property q.property) (property q.property).start ps ≡ v)
  pub served : other_faults n w.memory.table w.count (wanted q t) out ≡ accept → v ≢ (property q.property).none
      → (k : ℕ) × ((route_now n w (wanted q t) out).reply ≡ accepted k)
  pub unrouted : other_faults n w.memory.table w.count (wanted q t) out ≡ accept
      → ((route_now n w (wanted q t) out).reply ≡ refused 15 0) ↔ (v ≡ (property q.property).none)

abbrev pub RouteBehind : Type 0
RouteBehind = (n : ℕ) (ls : List ℕ) (w : Network) → faults n ls w ≡ accept → (bs : List (List Change)) (q : Query) (words : Words) (tally : Tally)
    → (query_call n ls (moment n ls w bs) q words).reply ≡ accepted tally → (t : ℕ) → t < n → (out : Answer)
    → Behind n (edges_now n w bs) (moment n ls w bs) q t (word (property q.property) (query_call n ls (moment n ls w bs) q words).memory.settled t) out
