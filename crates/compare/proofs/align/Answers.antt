-- `compare::align` meets its contract: a copy of the index, and the changes gone over one by one. Assumes nothing.
use Rattle.property.proofs.Basics.{arith, ◌≡◌, ◌∙◌, length}
use Rattle.compare.proofs.Beside.{aligned_turn, aligned_done}
use Rattle.compare.proofs.align.Goals as goal

pub loop-k-preserved : goal.loop-k-preserved
loop-k-preserved c =
    (aligned_turn _ _ c.loop-k.other c.align_change.new.other c.loop-k.k c.loop-k-test.true c.align_change.ensures.1 c.loop-k.invariant.0, c.align_change.ensures.0 ∙ c.loop-k.invariant.1)

pub returns : goal.returns
returns c =
    let kept : length c.loop-k.other ≡ length c.args.other.now = c.loop-k.invariant.1 ∙ c.copy.auto.dst in
    record { by_index = aligned_done _ _ c.loop-k.other c.loop-k.k (omega (arith, c.loop-k-test.false)) c.loop-k.invariant.0; other_len_unchanged = kept }
