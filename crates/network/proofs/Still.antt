-- A batch is never refused by number 13, whatever words of 32 bits its rows held. Assumes nothing.
use Rattle.property.proofs.Basics.{◌≡◌, false, List, map, ℕ, suc, ◌%◌}
use Rattle.property.specs.Property.{properties}
use Rattle.graph.specs.Refusal.{accept}
use Rattle.graph.specs.Edge.{Edge, reverse}
use Rattle.graph.proofs.Tests.{or_false}
use Rattle.graph.proofs.Verdicts.{accept_if}
use Rattle.graph.proofs.Order.{Within}
use Rattle.theory.proofs.Reverse.{within_reverse}
use Rattle.network.specs.Network.{Network, edges_in, rows_of, unsettled}
use Rattle.network.specs.Batch.{batch_row, batch_rows, still_waiting}
use Rattle.network.proofs.Ends.{batch_row_ends}
use Rattle.network.proofs.Never.{FitList, row_fits}
use Rattle.network.proofs.Rows.{unsettled_map}

-- es are the edges before the batch and fs those after it: from any words n rounds suffice
rows_still : (n : ℕ) (ls : List ℕ) (es fs : List Edge) → Within n fs → (xs : List ℕ) → FitList xs → unsettled (batch_rows n ls es fs xs) ≡ false
rows_still n ls es fs h xs k = unsettled_map (batch_row n ls es fs xs) (rows_of ls) (λ r m. batch_row_ends n ls es fs h xs r (row_fits (suc (r % properties)) n r xs k))

pub still_waiting_lem : (n : ℕ) (ls : List ℕ) (w : Network) (fs : List Edge) → Within n fs → FitList w.memory.rows.forward → FitList w.memory.rows.backward
    → still_waiting n ls w fs ≡ accept
still_waiting_lem n ls w fs h f b =
    accept_if 13 0 (or_false (rows_still n ls (edges_in w) fs h _ f) (rows_still n ls (map reverse (edges_in w)) (map reverse fs) (within_reverse n fs h) _ b))
