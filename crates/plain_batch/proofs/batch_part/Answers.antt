-- `plain_batch::batch_part` meets its contract. Assumes nothing.
use Rattle.property.proofs.Basics.{◌≡◌, sym, ap, ◌∙◌, min, length, length-map}
use Rattle.network.specs.Batch.{batch_call}
use Rattle.calls.specs.Code.{network}
use Rattle.items.specs.Code.{change_of, changes_of}
use Rattle.plain_batch.proofs.Calling.{part_cut}
use Rattle.plain_batch.proofs.batch_part.Goals as goal

pub returns : goal.returns
returns c =
    let a = c.args in
    let cs = changes_of a.changes.now in
    let e : c.min-end.result ≡ min a.to (length cs) = c.min-end.ensures ∙ ap (min a.to) (sym (length-map a.changes.now change_of)) in
    c.batch_laid.ensures _ c.lay.ensures
    ∙ ap (batch_call a.n a.landmarks.now (network a.tails.now a.heads.now a.weights.now a.forward.now a.backward.now a.count)) (part_cut cs a.from a.to _ _ e c.min-start.ensures)
