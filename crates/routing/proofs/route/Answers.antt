-- `routing::route` meets its contract: judged, then found. Assumes nothing.
use Rattle.property.proofs.Basics.{◌≡◌, sym, ◌∙◌, ℕ, length, take, replicate, length-take-le}
use Rattle.graph.specs.Limits.{max_vertices}
use Rattle.graph.specs.Refusal.{accept}
use Rattle.graph.specs.Table.{Columns}
use Rattle.graph.specs.Code.{columns}
use Rattle.graph.proofs.Judging.{passed_on, fine_accept}
use Rattle.answers.specs.Routing.{Request, route_faults}
use Rattle.routing.specs.Code.{requesting, Routable}
use Rattle.routing.proofs.Answering.{accept_routable, route_refused, route_unfaulted}
use Rattle.routing.proofs.route.Goals.{In_ok-judge_route}
use Rattle.routing.proofs.route.Goals as goal

-- what is known once the request is judged
routable_of : (c : In_ok-judge_route) → let a = c.args in
    Routable a.n a.count a.property a.source a.target a.tails.now a.heads.now a.weights.now a.vertices.now a.marks.now a.figures.now
routable_of c =
    let a = c.args in
    accept_routable a.n a.tails.now a.heads.now a.weights.now a.count a.property a.source a.target a.vertices.now a.marks.now a.figures.now (fine_accept _ c.in_ok-judge_route.ensures)

pub returns-in_err-judge_route : goal.returns-in_err-judge_route
returns-in_err-judge_route c =
    let table : Columns = columns c.args.tails.now c.args.heads.now c.args.weights.now in
    let asked : Request = requesting c.args.property c.args.source c.args.target in
    rw (passed_on _ c.from_residual.ensures.1)
    (route_refused c.args.n table c.args.count asked c.args.vertices.now c.args.marks.now c.args.figures.now _ c.in_err-judge_route.ensures)

pub slice_bounds-via-end : goal.slice_bounds-via-end
slice_bounds-via-end c =
    let routable = routable_of (goal.at.slice_bounds-via-end c).In_ok-judge_route in
    routable.few

pub slice_bounds-find_route-end : goal.slice_bounds-find_route-end
slice_bounds-find_route-end c =
    let routable = routable_of (goal.at.slice_bounds-find_route-end c).In_ok-judge_route in
    let size : let a = c.args in length (take {A = ℕ} a.n (replicate max_vertices 0)) ≡ a.n = let a = c.args in length-take-le {A = ℕ} a.n (replicate max_vertices 0) routable.few in
    sym (size)

pub find_route-requires : goal.find_route-requires
find_route-requires c =
    let routable = routable_of (goal.at.find_route-requires c).In_ok-judge_route in
    let size : let a = c.args in length (take {A = ℕ} a.n (replicate max_vertices 0)) ≡ a.n = let a = c.args in length-take-le {A = ℕ} a.n (replicate max_vertices 0) routable.few in
    (routable, size)

pub returns : goal.returns
returns c =
    let table : Columns = columns c.args.tails.now c.args.heads.now c.args.weights.now in
    let asked : Request = requesting c.args.property c.args.source c.args.target in
    let fine : route_faults c.args.n table c.args.count asked (length c.args.vertices.now) (length c.args.marks.now) (length c.args.figures.now) ≡ accept = fine_accept _ c.in_ok-judge_route.ensures in
    c.find_route.ensures ∙ route_unfaulted c.args.n table c.args.count asked c.args.vertices.now c.args.marks.now c.args.figures.now (fine)
