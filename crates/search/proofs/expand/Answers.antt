-- `search::expand` meets its contract. The loop's invariant: the edges that are left, from the search now, come to what all edges of the vertex come
-- to from the search at entry. Assumes nothing.
use Rattle.property.proofs.Basics.{refl, sym, ap, ◌∙◌, ◌+◌, get_or, arith}
use Rattle.graph.specs.Arc.{arc, arc_head, arc_weight}
use Rattle.graph.specs.Edge.{edge}
use Rattle.answers.specs.Routing.{eligible}
use Rattle.graph.proofs.Lists.{fold_turn, fold_done}
use Rattle.run.proofs.Folds.{part_more, part_none}
use Rattle.search.specs.Search.{look}
use Rattle.search.proofs.Steps.{eligible_word, expand_own}
use Rattle.search.proofs.expand.Goals as goal

pub overflow_cast-hi : goal.overflow_cast-hi
overflow_cast-hi c =
    omega (arith, c.type_inv.index (c.args.u + 1))

pub overflow_cast-lo : goal.overflow_cast-lo
overflow_cast-lo c =
    omega (arith, c.type_inv.index c.args.u)

pub loop-j-init : goal.loop-j-init
loop-j-init c =
    let u = c.args.u in
    let f = c.requires.1 in
    (refl, f.rising u c.requires.0, c.requires.3)

pub bounds-row-h : goal.bounds-row-h
bounds-row-h c =
    let f = c.requires.1 in
    let i = f.inside c.loop-j.j (omega (arith, f.after c.args.u (omega (arith, c.requires.0)))) (omega (arith, f.within c.args.u c.requires.0)) in
    omega (arith, c.head-h.ensures, c.requires.2)

pub arc-requires : goal.arc-requires
arc-requires c =
    (omega (arith, c.requires.0, c.requires.1.few), omega (arith, c.weight-w.ensures))

pub look-m-requires : goal.look-m-requires
look-m-requires c =
    let f = c.requires.1 in
    let i = f.inside c.loop-j.j (omega (arith, f.after c.args.u (omega (arith, c.requires.0)))) (omega (arith, f.within c.args.u c.requires.0)) in
    (omega (arith, c.head-h.ensures), (λ q. omega (arith, c.arc.ensures, c.weight-w.ensures, f.few, c.requires.0)), c.loop-j.invariant.2)

pub loop-j-preserved : goal.loop-j-preserved
loop-j-preserved c =
    let g = c.args in
    let at = c.loop-j in
    let arcAt = get_or g.index.now at.j 0 in
    let e = edge g.u (arc_head arcAt) (arc_weight arcAt) in
    let F = eligible g.p g.row.now g.v in
    let f = c.requires.1 in
    let i = f.inside at.j (omega (arith, f.after g.u (omega (arith, c.requires.0)))) (omega (arith, f.within g.u c.requires.0)) in
    let z = eligible_word g.p g.v g.u c.head-h.result c.weight-w.result arcAt g.row.now _
    (omega (arith, c.requires.0, c.requires.2)) (omega (arith, c.requires.2)) c.head-h.ensures c.weight-w.ensures c.is_eligible-test.ensures in
    let q = c.look-m.ensures.via_after F e z (sym c.head-h.ensures) (ap (arc g.u) (sym c.weight-w.ensures) ∙ sym c.arc.ensures) in (
      fold_turn (look F) e (part_more _ _ _ _ _ _ c.loop-j-test.true) q at.invariant.0,
      omega arith,
      c.look-m.ensures.searching,
    )

pub returns : goal.returns
returns c =
    let g = c.args in
    let F = eligible g.p g.row.now g.v in record {
      via_after = λ es o.
          fold_done (look F) (part_none _ _ _ _ _ _ c.loop-j-test.false) c.loop-j.invariant.0
          ∙ expand_own F es g.index.now _ g.u (o g.u c.requires.0);
      searching = c.loop-j.invariant.2;
    }
