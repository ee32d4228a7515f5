-- The weights of a route that are written, one edge at a time: document 02, Five ("the route of Two names for each segment .. the lowest figure with which
-- the route keeps its value"). That all of them together keep it is in RoutesPreferred, whose route has these weights and is best. Assumes nothing.
--
--   KeepsWith P es s t vs i w == the route through the vertices vs keeps its value with weight w at place i: with some twins at its other places it is best
--   KeepsWritten .. i w       == so it is for the vertices that the call has written
--   LowestWeights             == the claim: where a route is accepted, the weight that is written at each place is the lowest with which it keeps its value
use Rattle.std.specs.Prelude.{◌≡◌, List, ℕ, suc, ◌≤◌, ◌<◌, get_or, take}
use Rattle.property.specs.Property.{Property, property}
use Rattle.graph.specs.Refusal.{accepted}
use Rattle.graph.specs.Edge.{Edge}
use Rattle.graph.specs.Table.{Columns, edges_of}
use Rattle.graph.specs.Leads.{visited, weights_of, BestLeads}
use Rattle.answers.specs.Routing.{Request, Answer, route_call}

abbrev pub KeepsWith : Property → List Edge → ℕ → ℕ → List ℕ → ℕ → ℕ → Type 0
KeepsWith P es s t vs i w = (qs : List Edge) × BestLeads P es s t qs × (visited s qs ≡ vs) × (get_or (weights_of qs) i 0 ≡ w)

module _ (n : ℕ) (cs : Columns) (m : ℕ) (q : Request) (out : Answer) (k : ℕ) where
  abbrev pub KeepsWritten : ℕ → ℕ → Type 0
  KeepsWritten i w = KeepsWith (property q.property) (edges_of cs m) q.source q.target (take k (route_call n cs m q out).memory.vertices) i w

abbrev pub LowestWeights : Type 0
LowestWeights = (n : ℕ) (cs : Columns) (m : ℕ) (q : Request) (out : Answer) (k : ℕ) → (route_call n cs m q out).reply ≡ accepted k → (i : ℕ) → suc i < k
    → KeepsWritten n cs m q out k i (get_or (route_call n cs m q out).memory.figures i 0)
    × ((w : ℕ) → KeepsWritten n cs m q out k i w → get_or (route_call n cs m q out).memory.figures i 0 ≤ w)
