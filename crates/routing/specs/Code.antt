-- What the functions of a route take and answer. Assumes nothing.
--
--   requesting p s t         == numbers as a request
--   request_of r             == the program's request as one
--   answer_of xs ys zs       == three lists as those lent for the answer
--   routing r                == the program's reply as document 02's
--   route_outcome r xs ys zs == the program's reply r and the three lists at exit, as an outcome
--   unfaulted n cs m q out   == the outcome of a request that numbers 1 to 6 let pass
--   Routable ..              == what such a request has: few vertices, a table that keeps the rules, a property, source and target, and lists with room
use Rattle.std.specs.Prelude.{List, ℕ, suc, ◌<◌, ◌≤◌, length, Result}
use Rattle.property.specs.Property.{properties}
use Rattle.graph.specs.Limits.{max_vertices}
use Rattle.graph.specs.declared.refusal.Refusal.{Refusal}
use Rattle.graph.specs.Refusal.{Reply, Outcome, outcome}
use Rattle.graph.specs.Code.{reply_of}
use Rattle.graph.specs.Table.{Columns}
use Rattle.answers.specs.Routing.{Request, Answer, preferred, no_route, with_route}
use Rattle.calls.specs.Code.{Tabled}
use Rattle.routing.specs.declared.Request as declared

abbrev pub requesting : ℕ → ℕ → ℕ → Request
requesting p s t = record { property = p; source = s; target = t }

abbrev pub request_of : declared.Request → Request
request_of r = requesting r.property r.source r.target

abbrev pub answer_of : List ℕ → List ℕ → List ℕ → Answer
answer_of xs ys zs = record { vertices = xs; marks = ys; figures = zs }

abbrev pub routing : Result ℕ Refusal → Reply ℕ
routing r = reply_of (λ k. k) r

abbrev pub route_outcome : Result ℕ Refusal → List ℕ → List ℕ → List ℕ → Outcome ℕ Answer
route_outcome r xs ys zs = record { reply = routing r; memory = answer_of xs ys zs }

abbrev pub unfaulted : ℕ → Columns → ℕ → Request → Answer → Outcome ℕ Answer
unfaulted n cs m q out = outcome (no_route n cs m q) (suc (length (preferred n cs m q))) (with_route n cs m q out) out

pub record Routable (n m p s t : ℕ) (ts hs ws xs ys zs : List ℕ) : Type 0 where
  pub few : n ≤ max_vertices
  pub tabled : Tabled n m ts hs ws
  pub least : 0 < p
  pub most : p ≤ properties
  pub source : s < n
  pub target : t < n
  pub vertices : n ≤ length xs
  pub marks : n ≤ length ys
  pub figures : n ≤ length zs
