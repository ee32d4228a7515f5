-- `calls::row_start` meets its contract. Assumes nothing.
use Rattle.property.proofs.Basics.{arith}
use Rattle.calls.proofs.Rows.{row_fits}
use Rattle.calls.proofs.row_start.Goals as goal

pub overflow_mul-result-2 : goal.overflow_mul-result-2
overflow_mul-result-2 c =
    row_fits _ _ (omega arith) c.requires.2
