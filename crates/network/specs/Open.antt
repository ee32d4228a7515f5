-- Opening a network: document 01, "Opening". Assumes nothing.
--
--   open_row n ls es r  == the state in which the run of row r ends: rounds from the opened row, at most n
--   open_rows n ls es   == those of all rows
--   open_verdict n ls w == when the call is refused: 1 to 4, then 13
--   open_memory n ls w  == the lent lists after it: the row lists are written, the table is not
--   open_call n ls w    == reply ("only that it was accepted") and every lent list at exit
use Rattle.std.specs.Prelude.{◌||◌, List, map, ℕ}
use Rattle.graph.specs.Refusal.{Verdict, ◌▷◌, refuse_if, Outcome, outcome, over}
use Rattle.graph.specs.Edge.{Edge, reverse}
use Rattle.run.specs.Run.{State, settle}
use Rattle.run.specs.Start.{opened}
use Rattle.network.specs.Network.{Memory, Network, edges_in, faults, property_of, landmark_of, rows_of, flat, unsettled}

abbrev pub open_row : ℕ → List ℕ → List Edge → ℕ → State
open_row n ls es r = settle (property_of r) es n n (opened (property_of r) n (landmark_of ls r))

abbrev pub open_rows : ℕ → List ℕ → List Edge → List State
open_rows n ls es = map (open_row n ls es) (rows_of ls)

abbrev pub open_verdict : ℕ → List ℕ → Network → Verdict
open_verdict n ls w =
    faults n ls w
    ▷ refuse_if (unsettled (open_rows n ls (edges_in w)) || unsettled (open_rows n ls (map reverse (edges_in w)))) 13 0

abbrev pub open_memory : ℕ → List ℕ → Network → Memory
open_memory n ls w = record {
  table = w.memory.table;
  rows = record {
    forward = over (flat (open_rows n ls (edges_in w))) w.memory.rows.forward;
    backward = over (flat (open_rows n ls (map reverse (edges_in w)))) w.memory.rows.backward;
  };
}

unfoldable pub open_call : ℕ → List ℕ → Network → Outcome (Unit {0}) Memory
open_call n ls w = outcome (open_verdict n ls w) tt (open_memory n ls w) w.memory
