-- `compare::join_retunes` meets its contract: the changes are gone over one by one. Assumes nothing.
use Rattle.property.proofs.Basics.{arith, ◌≡◌, ◌*◌, ◌≤◌, length}
use Rattle.compare.proofs.Joining.{Joined, joined_step, joined_differences, joined_inside}
use Rattle.compare.proofs.join_retunes.Goals as goal

pub loop-k-preserved : goal.loop-k-preserved
loop-k-preserved c =
    (rw c.join_retune.ensures (joined_step c.args.list.now c.loop-k.list c.args.size c.loop-k.k c.loop-k.invariant.0 c.requires), omega (arith, c.loop-k-test.true))

pub returns : goal.returns
returns c =
    let x = c.args.list.now in
    let g = c.args.size in
    let e : c.loop-k.k ≡ g = omega (arith, c.loop-k.invariant.1, c.loop-k-test.false) in
    let t : Joined x c.loop-k.list g g = rw e at c.loop-k.invariant.0 in
    let long : 2 * g ≤ length c.loop-k.list = omega (arith, c.requires, t.size) in record { list_len_unchanged = (t.size, joined_inside x c.loop-k.list g t long c.requires); by_index = joined_differences x c.loop-k.list g t long }
