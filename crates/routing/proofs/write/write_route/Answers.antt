-- `routing::write::write_route` meets its contract. Assumes nothing.
use Rattle.property.proofs.Basics.{arith, sym, ◌<◌, ◌≤◌, length}
use Rattle.graph.specs.Limits.{max_vertices}
use Rattle.routing.proofs.write.write_route.Goals as goal

pub write_back-requires : goal.write_back-requires
write_back-requires c =
    let (ps, h) = c.requires.0 in
    ((c.args.s, ps, h, c.edges_back-k.ensures ps h), c.requires.1, c.requires.3)

pub mark_edges-requires : goal.mark_edges-requires
mark_edges-requires c =
    let few : let n = length c.args.via.now in (c.edges_back-k.result < n) × (n ≤ max_vertices) = let (ps, h) = c.requires.0 in (omega (arith, h.short, c.edges_back-k.ensures ps h), h.few) in
    (omega (arith, few, c.requires.3, c.write_back.auto.figures), omega (arith, few, c.requires.2))

pub overflow_cast-result : goal.overflow_cast-result
overflow_cast-result c =
    let few : let n = length c.args.via.now in (c.edges_back-k.result < n) × (n ≤ max_vertices) = let (ps, h) = c.requires.0 in (omega (arith, h.short, c.edges_back-k.ensures ps h), h.few) in
    omega (arith, few)

pub overflow_add-result : goal.overflow_add-result
overflow_add-result c =
    let few : let n = length c.args.via.now in (c.edges_back-k.result < n) × (n ≤ max_vertices) = let (ps, h) = c.requires.0 in (omega (arith, h.short, c.edges_back-k.ensures ps h), h.few) in
    omega (arith, few)

pub returns : goal.returns
returns c =
    let a = c.args in
    λ ps h.
    let e = c.edges_back-k.ensures ps h in
    let v = c.write_back.ensures a.s ps h e in
    (omega arith, v.0, c.mark_edges.ensures ps a.figures.now (sym e) v.1, v.1)
