-- A batch: document 01, "Batch"; document 02, One. Assumes nothing.
--
-- es is the list of edges before the batch, fs the list after it, xs a row list before it.
--
--   row_affected n ls es fs vs r   == the affected vertices of row r, whose words are vs, as marks
--   row_end n ls es fs vs r        == the state in which its run ends: rounds from the prepared row, at most n
--   affected_in, batch_row .. xs r == the same of row r of the list xs
--   batch_rows n ls es fs xs       == those of all rows
--   affected_over .. rs            == how many vertices are affected in the rows rs
--   affected_of n ls es fs xs      == how many vertices are affected, over all rows
--   Report                         == the new count; affected vertices ("suspects") and stores, over all rows of both lists
--   column f fs                    == a table list after the batch: the new words, then zeros up to 2,048
--   rewritten fs cs                == the table lists after the batch; words from 2,048 on stay
--   new_forward, new_backward      == the states in which the runs of the two row lists end
--   still_waiting n ls w fs        == number 13
--   batch_memory, report           == the lent lists and the report of a batch after which the edges are fs
--   long_batch k                   == number 1 of a batch of k changes
--   batch_faults n ls w k          == numbers 1 to 4 of a batch of k changes
--   new_edges w b                  == the edges after the batch
--   batch_verdict                  == when the call is refused: 1 to 4 first, then its items, then 13
--   batch_call n ls w b            == reply (the report) and every lent list at exit
use Rattle.std.specs.Prelude.{Bool, ◌||◌, List, [], ◌∷◌, ◌++◌, map, ℕ, ◌+◌, ◌-◌, length, replicate, ltb}
use Rattle.frontier.specs.Waiting.{count_of}
use Rattle.graph.specs.Limits.{max_edges, max_batch}
use Rattle.graph.specs.Refusal.{Verdict, ◌▷◌, refuse_if, Outcome, outcome, over}
use Rattle.graph.specs.Edge.{Edge, reverse}
use Rattle.graph.specs.Table.{Columns}
use Rattle.run.specs.Run.{State, settle}
use Rattle.affected.specs.Affected.{affected}
use Rattle.affected.specs.Prepared.{prepared}
use Rattle.network.specs.Network.{Memory, Network, edges_in, faults, row, property_of, landmark_of, rows_of, flat, unsettled, stores_of}
use Rattle.network.specs.Change.{Change, edits, items}

-- ---- one row, whose words are vs

module _ (n : ℕ) (ls : List ℕ) (es fs : List Edge) (vs : List ℕ) (r : ℕ) where
  abbrev pub row_affected : List Bool
  row_affected = affected (property_of r) es fs (landmark_of ls r) vs n

  abbrev pub row_end : State
  row_end = settle (property_of r) fs n n (prepared (property_of r) es fs (landmark_of ls r) vs n)

-- ---- the rows of one list

module _ (n : ℕ) (ls : List ℕ) (es fs : List Edge) (xs : List ℕ) where
  abbrev pub affected_in : ℕ → List Bool
  affected_in r = row_affected n ls es fs (row n r xs) r

  abbrev pub batch_row : ℕ → State
  batch_row r = row_end n ls es fs (row n r xs) r

  abbrev pub batch_rows : List State
  batch_rows = map batch_row (rows_of ls)

  unfoldable pub affected_over : List ℕ → ℕ
  affected_over [] = 0
  affected_over (r ∷ rs) = count_of (affected_in r) + affected_over rs

  abbrev pub affected_of : ℕ
  affected_of = affected_over (rows_of ls)

-- ---- the call

pub record Report : Type 0 where
  pub count : ℕ
  pub affected : ℕ
  pub stores : ℕ

abbrev pub column : (Edge → ℕ) → List Edge → List ℕ
column f fs = map f fs ++ replicate (max_edges - length fs) 0

abbrev pub rewritten : List Edge → Columns → Columns
rewritten fs cs = record {
  tails = over (column (λ e. e.tail) fs) cs.tails;
  heads = over (column (λ e. e.head) fs) cs.heads;
  weights = over (column (λ e. e.weight) fs) cs.weights;
}

abbrev pub new_edges : Network → List Change → List Edge
new_edges w b = edits (edges_in w) b

-- a batch after which the edges are fs
module _ (n : ℕ) (ls : List ℕ) (w : Network) (fs : List Edge) where
  abbrev pub new_forward : List State
  new_forward = batch_rows n ls (edges_in w) fs w.memory.rows.forward

  abbrev pub new_backward : List State
  new_backward = batch_rows n ls (map reverse (edges_in w)) (map reverse fs) w.memory.rows.backward

  abbrev pub still_waiting : Verdict
  still_waiting = refuse_if (unsettled new_forward || unsettled new_backward) 13 0

  abbrev pub batch_memory : Memory
  batch_memory = record {
    table = rewritten fs w.memory.table;
    rows = record {
      forward = over (flat new_forward) w.memory.rows.forward;
      backward = over (flat new_backward) w.memory.rows.backward;
    };
  }

  abbrev pub report : Report
  report = record {
    count = length fs;
    affected =
        affected_of n ls (edges_in w) fs w.memory.rows.forward
        + affected_of n ls (map reverse (edges_in w)) (map reverse fs) w.memory.rows.backward;
    stores = stores_of new_forward + stores_of new_backward;
  }

abbrev pub long_batch : ℕ → Verdict
long_batch k = refuse_if (ltb max_batch k) 1 0

unfoldable pub batch_faults : ℕ → List ℕ → Network → ℕ → Verdict
batch_faults n ls w k = long_batch k ▷ faults n ls w

module _ (n : ℕ) (ls : List ℕ) (w : Network) (b : List Change) where
  abbrev pub batch_verdict : Verdict
  batch_verdict = batch_faults n ls w (length b) ▷ items n 0 (edges_in w) b ▷ still_waiting n ls w (new_edges w b)

  unfoldable pub batch_call : Outcome Report Memory
  batch_call = outcome batch_verdict (report n ls w (new_edges w b)) (batch_memory n ls w (new_edges w b)) w.memory
