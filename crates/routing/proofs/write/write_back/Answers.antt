-- `routing::write::write_back` meets its contract: what is still to be written, over the lists as they are, comes to the same. Assumes nothing.
use Rattle.property.proofs.Basics.{needs, arith, ◌≡◌, refl, sym, ◌∙◌, suc, ◌-◌, ◌<◌, ◌≤◌, length, length-set}
use Rattle.graph.specs.Limits.{max_vertices}
use Rattle.graph.specs.Leads.{visited, weights_of}
use Rattle.graph.proofs.Copies.{over_back_turn, over_set, over_back_start, over_back_done}
use Rattle.routing.proofs.Writing.{At, at_last, at_inside, at_back, at_weight, length_visited, length_weights}
use Rattle.routing.proofs.write.write_back.Goals as goal

pub offset_bounds-vertices-k : goal.offset_bounds-vertices-k
offset_bounds-vertices-k c =
    let few : let a = c.args in (a.k < length a.via.now) × (length a.via.now ≤ max_vertices) = let (s, ps, h, e) = c.requires.0 in (omega (arith, h.short), h.few) in
    let z = few in search needs

pub bounds-vertices-k : goal.bounds-vertices-k
bounds-vertices-k c =
    let few : let a = c.args in (a.k < length a.via.now) × (length a.via.now ≤ max_vertices) = let (s, ps, h, e) = c.requires.0 in (omega (arith, h.short), h.few) in
    let z = few in search needs

pub loop-i-init : goal.loop-i-init
loop-i-init c =
    let few : let a = c.args in (a.k < length a.via.now) × (length a.via.now ≤ max_vertices) = let (s, ps, h, e) = c.requires.0 in (omega (arith, h.short), h.few) in
    let a = c.args in
    let z = few in
    λ s ps h e.
    let m = length_visited s ps in
    let n = length_weights ps in
    let q : At s ps a.k a.t = rw e (at_last h) in (
      q,
      over_back_turn (visited s ps) a.vertices.now (suc a.k) a.k a.t refl (omega arith) (omega arith) q.vertex
          (over_back_start (visited s ps) a.vertices.now (suc a.k) (omega arith)) ∙ sym (over_set (visited s ps) a.vertices.now a.k a.t (omega arith)),
      over_back_start (weights_of ps) a.figures.now a.k (omega arith),
    )

pub overflow_cast-a : goal.overflow_cast-a
overflow_cast-a c =
    let near : c.loop-i.u < length c.args.via.now = let (s, ps, h, e) = c.requires.0 in at_inside h (c.loop-i.invariant s ps h e).0 in
    omega (arith, near)

pub offset_bounds-via-u : goal.offset_bounds-via-u
offset_bounds-via-u c =
    let near : c.loop-i.u < length c.args.via.now = let (s, ps, h, e) = c.requires.0 in at_inside h (c.loop-i.invariant s ps h e).0 in
    omega (arith, near)

pub bounds-via-u : goal.bounds-via-u
bounds-via-u c =
    let near : c.loop-i.u < length c.args.via.now = let (s, ps, h, e) = c.requires.0 in at_inside h (c.loop-i.invariant s ps h e).0 in
    near

pub offset_bounds-vertices-i : goal.offset_bounds-vertices-i
offset_bounds-vertices-i c =
    let few : let a = c.args in (a.k < length a.via.now) × (length a.via.now ≤ max_vertices) = let (s, ps, h, e) = c.requires.0 in (omega (arith, h.short), h.few) in
    let kept : length c.loop-i.vertices ≡ length c.args.vertices.now = let a = c.args in c.loop-i.auto.vertices ∙ length-set a.vertices.now a.k a.t in
    let room : (c.loop-i.i < length c.loop-i.vertices) × (c.loop-i.i < length c.loop-i.figures) = let z = few in
    let e = kept in
    (omega arith, omega arith) in
    let z = room in search needs

pub bounds-vertices-i : goal.bounds-vertices-i
bounds-vertices-i c =
    let few : let a = c.args in (a.k < length a.via.now) × (length a.via.now ≤ max_vertices) = let (s, ps, h, e) = c.requires.0 in (omega (arith, h.short), h.few) in
    let kept : length c.loop-i.vertices ≡ length c.args.vertices.now = let a = c.args in c.loop-i.auto.vertices ∙ length-set a.vertices.now a.k a.t in
    let room : (c.loop-i.i < length c.loop-i.vertices) × (c.loop-i.i < length c.loop-i.figures) = let z = few in
    let e = kept in
    (omega arith, omega arith) in
    let z = room in search needs

pub offset_bounds-figures-i : goal.offset_bounds-figures-i
offset_bounds-figures-i c =
    let few : let a = c.args in (a.k < length a.via.now) × (length a.via.now ≤ max_vertices) = let (s, ps, h, e) = c.requires.0 in (omega (arith, h.short), h.few) in
    let kept : length c.loop-i.vertices ≡ length c.args.vertices.now = let a = c.args in c.loop-i.auto.vertices ∙ length-set a.vertices.now a.k a.t in
    let room : (c.loop-i.i < length c.loop-i.vertices) × (c.loop-i.i < length c.loop-i.figures) = let z = few in
    let e = kept in
    (omega arith, omega arith) in
    let z = room in search needs

pub bounds-figures-i : goal.bounds-figures-i
bounds-figures-i c =
    let few : let a = c.args in (a.k < length a.via.now) × (length a.via.now ≤ max_vertices) = let (s, ps, h, e) = c.requires.0 in (omega (arith, h.short), h.few) in
    let kept : length c.loop-i.vertices ≡ length c.args.vertices.now = let a = c.args in c.loop-i.auto.vertices ∙ length-set a.vertices.now a.k a.t in
    let room : (c.loop-i.i < length c.loop-i.vertices) × (c.loop-i.i < length c.loop-i.figures) = let z = few in
    let e = kept in
    (omega arith, omega arith) in
    let z = room in search needs

pub loop-i-preserved : goal.loop-i-preserved
loop-i-preserved c =
    let few : let a = c.args in (a.k < length a.via.now) × (length a.via.now ≤ max_vertices) = let (s, ps, h, e) = c.requires.0 in (omega (arith, h.short), h.few) in
    let kept : length c.loop-i.vertices ≡ length c.args.vertices.now = let a = c.args in c.loop-i.auto.vertices ∙ length-set a.vertices.now a.k a.t in
    let room : (c.loop-i.i < length c.loop-i.vertices) × (c.loop-i.i < length c.loop-i.figures) = let z = few in
    let e = kept in
    (omega arith, omega arith) in
    let v = c.loop-i.invariant in
    let i = c.loop-i.i in
    let z = room in
    λ s ps h e.
    let r = v s ps h e in
    let b = r.0.inside in
    let w : At s ps (i - 1) c.head-u.result = rw c.head-u.ensures (at_back h r.0 (i - 1) (omega arith)) in (
      w,
      over_back_turn (visited s ps) c.loop-i.vertices i (i - 1) _ (omega arith) (omega (arith, length_visited s ps)) (omega arith) w.vertex r.1,
      over_back_turn (weights_of ps) c.loop-i.figures i (i - 1) _ (omega arith) (omega (arith, length_weights ps)) (omega arith) (c.weight.ensures ∙ at_weight h r.0 (i - 1) (omega arith)) r.2,
    )

pub shape_of-vertices : goal.shape_of-vertices
shape_of-vertices c =
    let kept : length c.loop-i.vertices ≡ length c.args.vertices.now = let a = c.args in c.loop-i.auto.vertices ∙ length-set a.vertices.now a.k a.t in
    kept

pub returns : goal.returns
returns c =
    let v = c.loop-i.invariant in
    let a = c.args in
    λ s ps h e.
    let r = v s ps h e in (
      over_back_done (visited s ps) c.loop-i.vertices c.loop-i.i (omega arith) r.1 ∙ over_set (visited s ps) a.vertices.now a.k a.t (omega (arith, length_visited s ps)),
      over_back_done (weights_of ps) c.loop-i.figures c.loop-i.i (omega arith) r.2,
    )
