-- `prepare::take_changes` meets its contract. The loop's invariant is `Raised` of the tails that are to do and of those that wait. Assumes nothing.
use Rattle.property.proofs.Basics.{◌*◌, arith}
use Rattle.prepare.proofs.Starts.{raised_none, raised_turn, raised_as}
use Rattle.prepare.proofs.take_changes.Goals as goal

pub loop-k-init : goal.loop-k-init
loop-k-init c =
    ((raised_none _ _ (λ t q. let a = q.2 in omega arith), c.requires.1), (raised_none _ _ (λ t q. let a = q.2 in omega arith), c.requires.2), omega arith)

pub start_change-requires : goal.start_change-requires
start_change-requires c =
    (omega (arith, c.loop-k-test.true), c.requires.0, c.requires.1.few)

pub wake_change-requires : goal.wake_change-requires
wake_change-requires c =
    (omega (arith, c.loop-k-test.true), (λ k h. omega (arith, c.requires.0 k h, c.requires.1.few)))

pub loop-k-preserved : goal.loop-k-preserved
loop-k-preserved c =
    let v = c.loop-k.invariant in
    let x = c.requires.0 (2 * c.loop-k.k) (omega (arith, c.loop-k-test.true)) in
    (raised_turn v.0 (omega (arith, x)) (omega arith) _ c.start_change.ensures, raised_turn v.1 x (omega arith) _ c.wake_change.ensures, omega (arith, c.loop-k-test.true))

pub returns : goal.returns
returns c =
    let v = c.loop-k.invariant in let a = v.2 in let b = c.loop-k-test.false in record { raised = raised_as v.0 (omega arith); raised_2 = raised_as v.1 (omega arith) }
