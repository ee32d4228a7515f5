-- `plain_batch::copy_table` meets its contract. Assumes nothing.
use Rattle.plain_batch.proofs.Calling.{edges_copied}
use Rattle.plain_batch.proofs.copy_table.Goals as goal

pub returns : goal.returns
returns c =
    edges_copied _ _ _ _ _ _ _ c.requires.0 c.copy.ensures c.copy-2.ensures c.copy-3.ensures
