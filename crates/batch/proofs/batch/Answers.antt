-- `batch::batch` meets its contract: the changes are laid in the lists, and the rest is done on these. Assumes nothing.
use Rattle.property.proofs.Basics.{ℕ, length-replicate}
use Rattle.batch.proofs.Copying.{copied_laid}
use Rattle.batch.proofs.batch.Goals as goal

pub returns : goal.returns
returns c =
    c.batch_laid.ensures _ (copied_laid c.args.changes.now _ _ _ c.min.ensures c.copy_changes.ensures (length-replicate {A = ℕ} 5120 0))
