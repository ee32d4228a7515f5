-- `graph::rules::are_sound` meets its contract. Assumes nothing.
--
-- The bound of a tail is that of the tails before it, for tails never fall. So the invariant speaks of the tail of the last record that was gone
-- past: if it is a vertex, what is left to judge gives the verdict on all. After the last record it is tested.
use Rattle.property.proofs.Basics.{arith, ◌≡◌, ltb, ltb-true, leb-true}
use lib.Dec.{leb}
use Rattle.graph.specs.Limits.{max_vertices, max_weight}
use Rattle.graph.proofs.Tests.{both}
use Rattle.graph.proofs.Judging.{follow_end}
use Rattle.graph.proofs.Ranks.{sofar_first, sofar_turn}
use Rattle.graph.proofs.rules.are_sound.Goals as goal

pub loop-k-init : goal.loop-k-init
loop-k-init c =
    let a = c.args in (
      rw c.is_edge.ensures (sofar_first a.n a.tails.now a.heads.now a.weights.now a.count c.requires.1 c.requires.0 _ c.rank_of-last.ensures),
      omega arith,
      omega arith,
    )

pub loop-k-preserved : goal.loop-k-preserved
loop-k-preserved c =
    let a = c.args in (
      rw c.is_next-all.ensures (sofar_turn a.n a.tails.now a.heads.now a.weights.now a.count c.requires.1 _ _ _ _ c.loop-k.k c.loop-k.invariant.1 (omega arith) c.loop-k.invariant.0 _ c.rank_of-next.ensures),
      omega arith,
      omega arith,
    )

pub returns : goal.returns
returns c =
    let a = c.args in
    let x : c.loop-k.k ≡ a.count = omega arith in
    λ e.
    let (p, q) = both c.loop-k.all _ e in
    let (u, v) = both (ltb c.loop-k.tall max_vertices) _ q in
    let (y, z) = both (leb c.loop-k.wide max_weight) _ v in
    let (_, _, _, _, judged) = c.loop-k.invariant.0 p (ltb-true _ _ u) (leb-true _ _ y) in
    follow_end _ _ _ _ c.requires.1 _ _ (judged (rw x (ltb-true _ _ z))) c.loop-k-test.false
