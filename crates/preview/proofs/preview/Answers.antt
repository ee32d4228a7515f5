-- `preview::preview` meets its contract: the changes that are copied are laid. Assumes nothing.
use Rattle.property.proofs.Basics.{refl, map}
use Rattle.batch.specs.Code.{recorded}
use Rattle.batch.proofs.Copying.{copied_laid}
use Rattle.preview.proofs.preview.Goals as goal

pub returns : goal.returns
returns c =
    let ys = c.args.changes.now in
    c.preview_laid.ensures (map recorded ys) (copied_laid ys _ _ _ c.min.ensures c.copy_changes.ensures refl)
