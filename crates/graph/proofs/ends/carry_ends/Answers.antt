-- `graph::ends::carry_ends` meets its contract. Assumes nothing.
use Rattle.property.proofs.Basics.{arith, ◌∙◌, ◌+◌, length-set, get_or-set_other}
use Rattle.graph.proofs.Parted.{carry_turn}
use Rattle.graph.proofs.ends.carry_ends.Goals as goal

pub loop-k-preserved : goal.loop-k-preserved
loop-k-preserved c = (
  carry_turn c.loop-k.k c.max.result c.args.ends.now c.loop-k.ends (omega arith) c.max.ensures c.loop-k.invariant.0 c.loop-k.invariant.1,
  (λ u b. get_or-set_other c.loop-k.ends (c.loop-k.k + 1) u c.max.result 0 (λ q. omega arith) ∙ c.loop-k.invariant.1 u (omega arith)),
  omega arith,
  simp length-set c.loop-k.invariant.3,
)

pub returns : goal.returns
returns c =
    λ m ks h u l. c.loop-k.invariant.0 m ks h u (omega arith)
