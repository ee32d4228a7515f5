-- The weights of a route that are written are the lowest, one edge at a time: the claim, proved. Assumes nothing.
use Rattle.property.proofs.Basics.{◌≡◌, sym, ◌∙◌, arith, List, ℕ, suc, ◌<◌, length, get_or, take, drop, length-map, get_or-append, take-append_seam}
use Rattle.graph.specs.Refusal.{over}
use Rattle.graph.specs.Edge.{Edge}
use Rattle.graph.specs.Leads.{visited, weights_of}
use Rattle.answers.specs.Weights.{LowestWeights}
use Rattle.answers.proofs.Routing.{routes_preferred}

-- ---- the vertices and a weight of a route, read back from what is written

vertices_back : (s : ℕ) (ps : List Edge) (xs zs : List ℕ) (k : ℕ) → k ≡ suc (length ps) → zs ≡ over (visited s ps) xs → take k zs ≡ visited s ps
vertices_back s ps xs zs k e z =
    rw (z, e, ← (length-map ps (λ (x : Edge). x.head))) (take-append_seam (visited s ps) (drop (length (visited s ps)) xs))

weight_back : (ps : List Edge) (xs zs : List ℕ) (i : ℕ) → i < length ps → zs ≡ over (weights_of ps) xs → get_or zs i 0 ≡ get_or (weights_of ps) i 0
weight_back ps xs zs i l z = rw z (get_or-append (weights_of ps) _ 0 i (omega (arith, length-map ps (λ (x : Edge). x.weight))))

-- ---- the claim

-- What is written is the vertices and weights of the preferred route. It is best with all its weights at once, and no best route through its vertices
-- has a lower weight at any place.
pub lowest_weights : LowestWeights
lowest_weights n cs m q out k e i l =
    let (ps, z) = (routes_preferred n cs m q out).written k e in
    let c = z.count in
    let v = vertices_back q.source ps out.vertices _ k c z.vertices in
    let w = weight_back ps out.figures _ i (omega arith) z.figures in
    ((ps, z.route.best, sym v, sym w), λ x (qs, b, y, d). rw (w, ← d) (z.route.lightest qs b (y ∙ v) i))
