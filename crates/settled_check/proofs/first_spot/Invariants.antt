-- `settled_check::first_spot` meets its contract: each loop's invariant says that what is left from here on gives the whole
-- check. Assumes nothing.
use Rattle.property.proofs.Basics.{◌+◌, ◌-◌, ◌≡◌, cond, List, ℕ, drop, eqb}
use Rattle.graph.specs.Edge.{edges, range}
use Rattle.std.specs.Prelude.{None}
use Rattle.network.specs.Network.{row, row_count, property_of}
use Rattle.network.specs.Settled.{Check, check, in_records, in_rows}
use Rattle.calls.specs.Code.{network}
use Rattle.settled_check.proofs.Checking.{edges_on, in_sides}
use Rattle.settled_check.proofs.first_spot.Given as goal

-- what is left of a side after row r, and after the side
abbrev pub after_side : ℕ → List ℕ → List ℕ → List ℕ → List ℕ → ℕ → List ℕ → List ℕ → ℕ → Check
after_side n ls ts hs ws m f b side = in_sides n (row_count ls) (edges ts hs ws m) f b (side + 1) (2 - (side + 1))

abbrev pub from_row : ℕ → List ℕ → List ℕ → List ℕ → List ℕ → ℕ → List ℕ → List ℕ → ℕ → ℕ → Check
from_row n ls ts hs ws m f b side r =
    in_rows n (edges_on (eqb side 0) (edges ts hs ws m)) (cond (eqb side 0) f b) side (range r (row_count ls - r)) (after_side n ls ts hs ws m f b side)

abbrev pub from_record : ℕ → List ℕ → List ℕ → List ℕ → List ℕ → ℕ → List ℕ → List ℕ → ℕ → ℕ → ℕ → Check
from_record n ls ts hs ws m f b side r j =
    in_records (property_of r) (row n r (cond (eqb side 0) f b)) side r j (drop j (edges_on (eqb side 0) (edges ts hs ws m))) (from_row n ls ts hs ws m f b side (r + 1))

abbrev pub invariant-loop-j : goal.invariant-loop-j
invariant-loop-j l =
    (from_record l.n l.landmarks l.tails l.heads l.weights l.count l.forward l.backward l.side l.r l.j ≡ check l.n l.landmarks (network l.tails l.heads l.weights l.forward l.backward l.count))
    × (l.found ≡ None)

abbrev pub invariant-loop-r : goal.invariant-loop-r
invariant-loop-r l =
    (from_row l.n l.landmarks l.tails l.heads l.weights l.count l.forward l.backward l.side l.r ≡ check l.n l.landmarks (network l.tails l.heads l.weights l.forward l.backward l.count))
    × (l.found ≡ None)

abbrev pub invariant-sides : goal.invariant-sides
invariant-sides l =
    (in_sides l.n (row_count l.landmarks) (edges l.tails l.heads l.weights l.count) l.forward l.backward l.side (2 - l.side) ≡ check l.n l.landmarks (network l.tails l.heads l.weights l.forward l.backward l.count))
    × (l.found ≡ None)
