-- The claims of specs/Steady.antt on what an accepted call leaves past what it writes. Assumes nothing.
use Rattle.property.proofs.Basics.{◌≡◌, sym, ap, ◌∙◌, subst, List, map, ◌++◌, append_assoc, ℕ, ◌-◌, ◌*◌, ◌≤◌, length, drop, replicate, length-map, length-replicate, take_at, drop_at}
use Rattle.graph.specs.Limits.{max_edges}
use Rattle.graph.specs.Refusal.{over}
use Rattle.graph.specs.Edge.{Edge, reverse}
use Rattle.graph.proofs.Lists.{length_range}
use Rattle.graph.proofs.Verdicts.{then_accept, reply_accepted, choose_accept}
use Rattle.run.specs.Run.{State}
use Rattle.network.specs.Network.{edges_in, row_count, rows_of, flat, faults}
use Rattle.network.specs.Open.{open_row, open_verdict, open_memory, open_call}
use Rattle.network.specs.Change.{items}
use Rattle.network.specs.Batch.{batch_row, column, long_batch, new_edges, batch_faults, batch_verdict, batch_memory, report, batch_call}
use Rattle.network.specs.Steady.{RestStays, RowsStay, Zeroed, OpenStays, BatchStays}
use Rattle.network.proofs.Items.{items_good, table_sound, table_count, length_column}
use Rattle.network.proofs.Rows.{length_flat, open_sized, batch_sized}
use Rattle.network.proofs.Moment.{faults_parts}

pub over_rest : {A : Type 0} (k : ℕ) (new xs : List A) → length new ≡ k → drop k (over new xs) ≡ drop k xs
over_rest k new xs q = drop_at new (drop (length new) xs) k q ∙ ap (λ j. drop j xs) q

rows_stay : (n : ℕ) (ls : List ℕ) (f : ℕ → State) → ((r : ℕ) → length (f r).words ≡ n) → (xs : List ℕ)
    → RestStays (row_count ls * n) xs (over (flat (map f (rows_of ls))) xs)
rows_stay n ls f sized xs = over_rest (row_count ls * n) (flat (map f (rows_of ls))) xs (length_flat n f sized (rows_of ls) ∙ ap (λ k. k * n) (length_range 0 (row_count ls)))

pub open_stays : OpenStays
unfolding open_call
open_stays n ls w h =
    let v = (reply_accepted (open_verdict n ls w) tt tt h).0 in
    let e = choose_accept (open_memory n ls w) w.memory v in (
      ap (λ m. m.table) e,
      subst (RowsStay n ls w.memory) (sym e) (record {
        forward = rows_stay n ls (open_row n ls (edges_in w)) (open_sized n ls (edges_in w)) w.memory.rows.forward;
        backward = rows_stay n ls (open_row n ls (map reverse (edges_in w))) (open_sized n ls (map reverse (edges_in w))) w.memory.rows.backward;
      }),
    )

column_zeroed : (f : Edge → ℕ) (fs : List Edge) (xs : List ℕ) → length fs ≤ max_edges → Zeroed (length fs) xs (over (column f fs) xs)
column_zeroed f fs xs few =
    let k = max_edges - length fs in
    let rest = drop (length (column f fs)) xs in
    record {
      zeros = rw (append_assoc (map f fs) (replicate k 0) rest, drop_at (map f fs) (replicate k 0 ++ rest) (length fs) (length-map fs f)) (take_at (replicate k 0) rest k (length-replicate k 0));
      rest = over_rest max_edges (column f fs) xs (length_column fs few f);
    }

-- An accepted batch has passed numbers 1 to 4 and its items, so that its new edges are at most 2,048; its lists are those of the definition.
pub batch_stays : BatchStays
unfolding batch_call batch_faults
batch_stays n ls w b r h =
    let fs = new_edges w b in
    let z = reply_accepted (batch_verdict n ls w b) (report n ls w fs) r h in
    let e = choose_accept (batch_memory n ls w fs) w.memory z.0 in
    let c : length fs ≡ r.count = ap (λ x. x.count) z.1 in
    let a = then_accept (batch_faults n ls w (length b)) _ z.0 in
    let d = faults_parts n ls w (then_accept (long_batch (length b)) (faults n ls w) a.0).1 in
    let y = table_sound n w.memory.table w.count d.4 in
    let few = (items_good n 0 (edges_in w) b (then_accept (items n 0 (edges_in w) b) _ a.1).0 y.1
    (rw (table_count w.memory.table w.count d.1 y.0) y.0)).1 in
    rw (e, ← c) (
      column_zeroed (λ x. x.tail) fs w.memory.table.tails few,
      column_zeroed (λ x. x.head) fs w.memory.table.heads few,
      column_zeroed (λ x. x.weight) fs w.memory.table.weights few,
      record {
        forward = rows_stay n ls (batch_row n ls (edges_in w) fs w.memory.rows.forward) (batch_sized n ls (edges_in w) fs w.memory.rows.forward) w.memory.rows.forward;
        backward = rows_stay n ls (batch_row n ls (map reverse (edges_in w)) (map reverse fs) w.memory.rows.backward)
            (batch_sized n ls (map reverse (edges_in w)) (map reverse fs) w.memory.rows.backward) w.memory.rows.backward;
      },
    )
