-- `compare::turn` meets its contract. Assumes nothing.
use Rattle.property.proofs.Basics.{arith, ◌≡◌}
use Rattle.compare.specs.Code.{changes_in}
use Rattle.compare.proofs.Reversed.{Turned, turned_net, turned_inside}
use Rattle.compare.proofs.turn.Goals as goal

pub returns : goal.returns
returns c =
    let e : c.loop-k.k ≡ changes_in c.args.list.now = omega (arith, c.loop-k.invariant.2, c.loop-k.invariant.1, c.loop-k-test.false) in
    let t : Turned c.args.list.now c.loop-k.list (changes_in c.args.list.now) = rw e at c.loop-k.invariant.0 in
    (turned_inside _ _ t, turned_net _ _ t)
