-- `routing::find_route` meets its contract: what the search finds is the preferred route. Assumes nothing.
use Rattle.property.proofs.Basics.{arith, ap, not}
use Rattle.graph.specs.Table.{Columns}
use Rattle.graph.specs.Code.{columns}
use Rattle.answers.specs.Routing.{Request, preferred}
use Rattle.search.specs.Code.{Trace}
use Rattle.routing.specs.Code.{request_of}
use Rattle.routing.proofs.Answering.{routable_asked, lacks_route, some_route, found_preferred, route_lacking, route_written}
use Rattle.routing.proofs.find_route.Goals as goal

pub find-requires : goal.find-requires
find-requires c =
    let g = c.requires.0 in
    (g.least, g.source, g.target, g.few, g.tabled, c.requires.1)

pub returns-then-not-find : goal.returns-then-not-find
returns-then-not-find c =
    let table : Columns = columns c.args.tails.now c.args.heads.now c.args.weights.now in
    let asked : Request = request_of c.args.request in
    route_lacking c.args.n table c.args.count asked c.args.vertices.now c.args.marks.now c.args.figures.now
    (lacks_route c.args.n table c.args.count asked (routable_asked c.requires.0) c.find.ensures.value (ap not c.if-not-find.true))

pub write_route-requires : goal.write_route-requires
write_route-requires c =
    let table : Columns = columns c.args.tails.now c.args.heads.now c.args.weights.now in
    let asked : Request = request_of c.args.request in
    let traces : Trace c.args.request.source c.args.request.target c.find.new.via (preferred c.args.n table c.args.count asked) = found_preferred c.args.n table c.args.count asked (routable_asked c.requires.0) c.find.ensures.value (ap not c.if-not-find.false) _ c.find.ensures.via_after in
    let k = c.find.auto.via in
    let g = c.requires.0 in
    ((_, traces), omega (arith, k, g.vertices, c.requires.1), omega (arith, k, g.marks, c.requires.1), omega (arith, k, g.figures, c.requires.1))

pub returns : goal.returns
returns c =
    let table : Columns = columns c.args.tails.now c.args.heads.now c.args.weights.now in
    let asked : Request = request_of c.args.request in
    let traces : Trace c.args.request.source c.args.request.target c.find.new.via (preferred c.args.n table c.args.count asked) = found_preferred c.args.n table c.args.count asked (routable_asked c.requires.0) c.find.ensures.value (ap not c.if-not-find.false) _ c.find.ensures.via_after in
    route_written c.args.n table c.args.count asked c.args.vertices.now c.args.marks.now c.args.figures.now _ _ _ _
    (some_route c.args.n table c.args.count asked (routable_asked c.requires.0) c.find.ensures.value (ap not c.if-not-find.false))
    (c.write_route.ensures _ traces)
