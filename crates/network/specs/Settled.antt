-- The settled check: document 01, "Settled check". It writes nothing. Assumes nothing.
--
--   Check                    == settled, or the first edge that could still better a word: side (0 forward, 1 backward), row, record
--   in_records .. j es later == the first of the records es, from index j, that could better a word of the row; later where none could
--   in_rows .. rs later      == the first in the rows rs of one side
--   check n ls w             == in order forward, backward, then row, then record
--   settled_call n ls w      == the reply; it is refused for 1 to 4
use Rattle.std.specs.Prelude.{cond, List, [], ◌∷◌, map, ℕ, suc}
use Rattle.property.specs.Property.{Property}
use Rattle.graph.specs.Refusal.{Reply, replied}
use Rattle.graph.specs.Edge.{Edge, reverse}
use Rattle.run.specs.Run.{relaxable}
use Rattle.network.specs.Network.{Network, edges_in, faults, row, property_of, rows_of}

pub data Check : Type 0 where
  settled : Check
  found : ℕ → ℕ → ℕ → Check

unfoldable pub in_records : Property → List ℕ → ℕ → ℕ → ℕ → List Edge → Check → Check
in_records P ws side r j [] later = later
in_records P ws side r j (e ∷ es) later = cond (relaxable P ws e) (found side r j) (in_records P ws side r (suc j) es later)

unfoldable pub in_rows : ℕ → List Edge → List ℕ → ℕ → List ℕ → Check → Check
in_rows n es xs side [] later = later
in_rows n es xs side (r ∷ rs) later = in_records (property_of r) (row n r xs) side r 0 es (in_rows n es xs side rs later)

abbrev pub check : ℕ → List ℕ → Network → Check
check n ls w =
    in_rows n (edges_in w) w.memory.rows.forward 0 (rows_of ls)
    (in_rows n (map reverse (edges_in w)) w.memory.rows.backward 1 (rows_of ls) settled)

unfoldable pub settled_call : ℕ → List ℕ → Network → Reply Check
settled_call n ls w = replied (faults n ls w) (check n ls w)
