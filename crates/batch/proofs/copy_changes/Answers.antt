-- `batch::copy_changes` meets its contract: the changes below i are copied. Assumes nothing.
use Rattle.property.proofs.Basics.{arith, ◌≡◌, ap, ◌∙◌, List, ℕ, ◌<◌, take, get_or, get_or-take, length-take-le}
use Rattle.items.specs.Code.{put_change}
use Rattle.items.proofs.Laying.{filled_more}
use Rattle.batch.specs.declared.Change.{Change}
use Rattle.batch.specs.Code.{recorded, no_change, record_at}
use Rattle.batch.proofs.copy_changes.Goals as goal

pub loop-i-preserved : goal.loop-i-preserved
loop-i-preserved c =
    let f = record_at c.args.changes.now in
    let xs : List Change = c.args.changes.now in
    let i = c.loop-i.i in
    let b : i < c.args.k = omega (arith, length-take-le c.args.k xs) in
    let same : get_or (take c.args.k xs) i no_change ≡ get_or xs i no_change = get_or-take c.args.k xs i no_change b in (
      c.put_change.ensures ∙ ap (λ (d : Change). put_change c.loop-i.lists i (recorded d)) same
          ∙ ap (λ (us : List ℕ). put_change us i (f i)) c.loop-i.invariant.0 ∙ filled_more f c.args.lists.now i,
      omega arith,
      c.put_change.auto.lists ∙ c.loop-i.invariant.2,
    )

pub returns : goal.returns
returns c =
    let e : c.loop-i.i ≡ c.args.k = omega (arith, length-take-le c.args.k c.args.changes.now) in
    rw e at c.loop-i.invariant.0
