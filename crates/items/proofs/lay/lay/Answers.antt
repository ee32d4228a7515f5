-- `items::lay::lay` meets its contract: the changes below i are laid. Assumes nothing.
use Rattle.property.proofs.Basics.{needs, arith, ◌≡◌, refl, ap, ◌∙◌, List, ℕ}
use Rattle.items.specs.Code.{put_change}
use Rattle.items.proofs.Laying.{filled_more, filled_laid, part_length, part_at}
use Rattle.items.proofs.lay.lay.Invariants.{from_on}
use Rattle.items.proofs.lay.lay.Goals as goal

pub loop-i-init : goal.loop-i-init
loop-i-init c =
    (refl, search needs, refl)

pub loop-i-preserved : goal.loop-i-preserved
loop-i-preserved c =
    let a = c.args in
    let f = from_on a.changes.now a.from in (
      c.put_change.ensures ∙ ap (λ (xs : List ℕ). put_change xs c.loop-i.i (f c.loop-i.i)) c.loop-i.invariant.0 ∙ filled_more f a.lists.now c.loop-i.i,
      omega arith,
      c.put_change.auto.lists ∙ c.loop-i.invariant.2,
    )

pub returns : goal.returns
returns c =
    let a = c.args in
    let m = c.min-most.ensures in
    let e : c.loop-i.i ≡ c.min-most.result = omega arith in
    filled_laid (from_on a.changes.now a.from) a.lists.now c.requires.1 _ a.size _ (part_length a.changes.now a.from a.size c.requires.0) m (part_at a.changes.now a.from a.size c.requires.0) (rw e at c.loop-i.invariant.0)
