-- What stays: past what an accepted call writes, in a batch without changes, and the settled check at any moment: document 01, "Network" ("words
-- past those stay"), "Batch", "Settled check" and "Near the edges, and a small deck" ("An empty batch is accepted"); document 02, One ("its own present
-- figure changes nothing"). Assumes nothing.
--
--   RestStays k xs ys == past the first k entries the list ys is as xs was
--   RowsStay n ls v w == so are both row lists, past their rows
--   Zeroed m xs ys    == a table list that was xs and has m records now: zeros from there to 2,047, and the words from 2,048 on as before
--
-- and the claims, each with its theorem in proofs/Stays.antt (the first two) or proofs/Steady.antt:
--
--   OpenStays  == an accepted opening, on whatever words, leaves the table and the words past the rows                     open_stays
--   BatchStays == so does an accepted batch of the words past the rows, and its table lists are zeroed past the new count   batch_stays
--   EmptyBatch == on any network that numbers 1 to 4 let pass, whatever words its rows hold, the batch without changes is accepted; it
--                   reports the count as before, no affected vertex and no store; each word of the row lists and each record stays  empty_batch
--   OwnWeight    == on any such network, a batch of one update that gives an edge the weight it has does what the batch without changes does   own_weight
--   SettledAfter == after an accepted opening and any list of batches the settled check says settled                         settled_after
use Rattle.std.specs.Prelude.{◌≡◌, true, ℕ, ◌-◌, ◌*◌, take, drop, replicate}
use mathlib.Core.List.{List, [], ◌∷◌, Memᴰ}
use Rattle.graph.specs.Limits.{max_edges}
use Rattle.graph.specs.Refusal.{accept, accepted}
use Rattle.network.specs.Network.{Memory, Network, edges_in, row_count, faults}
use Rattle.network.specs.Open.{open_call}
use Rattle.network.specs.Change.{Change, brought, updates}
use Rattle.network.specs.Batch.{Report, batch_call}
use Rattle.network.specs.Settled.{settled, settled_call}
use Rattle.network.specs.Caller.{hand_on}
use Rattle.network.specs.History.{moment}

-- ---- past what is written

abbrev pub RestStays : {A : Type 0} → ℕ → List A → List A → Type 0
RestStays k xs ys = drop k ys ≡ drop k xs

pub record RowsStay (n : ℕ) (ls : List ℕ) (v w : Memory) : Type 0 where
  pub forward : RestStays (row_count ls * n) v.rows.forward w.rows.forward
  pub backward : RestStays (row_count ls * n) v.rows.backward w.rows.backward

pub record Zeroed (m : ℕ) (xs ys : List ℕ) : Type 0 where
  pub zeros : take (max_edges - m) (drop m ys) ≡ replicate (max_edges - m) 0
  pub rest : RestStays max_edges xs ys

abbrev pub OpenStays : Type 0
OpenStays = (n : ℕ) (ls : List ℕ) (w : Network) → (open_call n ls w).reply ≡ accepted tt
    → ((open_call n ls w).memory.table ≡ w.memory.table) × RowsStay n ls w.memory (open_call n ls w).memory

abbrev pub BatchStays : Type 0
BatchStays = (n : ℕ) (ls : List ℕ) (w : Network) (b : List Change) (r : Report) → (batch_call n ls w b).reply ≡ accepted r
    → Zeroed r.count w.memory.table.tails (batch_call n ls w b).memory.table.tails
    × Zeroed r.count w.memory.table.heads (batch_call n ls w b).memory.table.heads
    × Zeroed r.count w.memory.table.weights (batch_call n ls w b).memory.table.weights
    × RowsStay n ls w.memory (batch_call n ls w b).memory

-- ---- a batch without changes

abbrev pub EmptyBatch : Type 0
EmptyBatch = (n : ℕ) (ls : List ℕ) (w : Network) → faults n ls w ≡ accept
    → ((batch_call n ls w []).reply ≡ accepted (record { count = w.count; affected = 0; stores = 0 }))
    × ((batch_call n ls w []).memory.rows ≡ w.memory.rows)
    × (edges_in (hand_on w (batch_call n ls w [])) ≡ edges_in w)

-- "its own present figure changes nothing"
abbrev pub OwnWeight : Type 0
OwnWeight = (n : ℕ) (ls : List ℕ) (w : Network) → faults n ls w ≡ accept → (c : Change) → updates c ≡ true → c.old ≡ c.weight → Memᴰ (brought c) (edges_in w)
    → batch_call n ls w (c ∷ []) ≡ batch_call n ls w []

-- ---- the settled check

abbrev pub SettledAfter : Type 0
SettledAfter = (n : ℕ) (ls : List ℕ) (w : Network) → faults n ls w ≡ accept → (bs : List (List Change))
    → settled_call n ls (moment n ls w bs) ≡ accepted settled
