-- What is saved as text at any moment of a history, and opened again: document 01, "Text" and demand 2 ("on a network opened and changed by
-- our calls alone"). Assumes nothing.
--
--   restored es ds xs == a network before its opening: the edges es as the reading call stored them in the table lists ds, and row lists xs
--   Same n ls v w     == two networks have the same records, the same count and the same rows, word for word
--   Saved n ls w es   == there is a canonical text of n and es, of 32,782 bytes at most; the writing call on w writes it wherever there is room; the reading call accepts
--                        it as n and es, into whatever lists that are long enough; and opened with the same n and landmarks these are, whatever
--                        the lists held, the same network as w
--
-- and the claim, with its theorem in proofs/Theorems.antt:
--
--   Restart           == after an accepted opening and any list of batches the network as it is now is saved so        restart
use Rattle.std.specs.Prelude.{◌≡◌, List, ℕ, ◌≤◌, ◌<◌, length}
use Rattle.graph.specs.Refusal.{accept, accepted, verdict_of, over}
use Rattle.graph.specs.Edge.{Edge}
use Rattle.graph.specs.Table.{Columns, short_table}
use Rattle.network.specs.Network.{Rows, Network, edges_in, row_count, short_rows, faults, row}
use Rattle.network.specs.Open.{open_call}
use Rattle.network.specs.Change.{Change}
use Rattle.network.specs.Caller.{opened_network}
use Rattle.network.specs.History.{moment, edges_now}
use Rattle.dimacs.specs.Call.{filled, read_call, write_call}
use Rattle.dimacs.specs.Claims.{Canonical}
use Rattle.dimacs.specs.Calls.{longest_text}

abbrev pub restored : List Edge → Columns → Rows → Network
restored es ds xs = record { memory = record { table = filled es ds; rows = xs }; count = length es }

pub record Same (n : ℕ) (ls : List ℕ) (v w : Network) : Type 0 where
  pub records : edges_in v ≡ edges_in w
  pub count : v.count ≡ w.count
  pub forward : (r : ℕ) → r < row_count ls → row n r v.memory.rows.forward ≡ row n r w.memory.rows.forward
  pub backward : (r : ℕ) → r < row_count ls → row n r v.memory.rows.backward ≡ row n r w.memory.rows.backward

pub record Saved (n : ℕ) (ls : List ℕ) (w : Network) (es : List Edge) : Type 0 where
  pub text : List ℕ
  pub canonical : Canonical text n es
  pub short : length text ≤ longest_text
  pub written : (out : List ℕ) → length text ≤ length out
      → write_call n w.memory.table w.count out ≡ record { reply = accepted (length text); memory = over text out }
  pub read : (ds : Columns) → short_table ds ≡ accept
      → read_call text ds ≡ record { reply = accepted (record { vertices = n; count = length es }); memory = filled es ds }
  pub opens : (ds : Columns) (xs : Rows) → short_table ds ≡ accept → short_rows n ls xs ≡ accept
      → verdict_of (open_call n ls (restored es ds xs)).reply ≡ accept
  pub same : (ds : Columns) (xs : Rows) → short_table ds ≡ accept → short_rows n ls xs ≡ accept → Same n ls (opened_network n ls (restored es ds xs)) w

abbrev pub Restart : Type 0
Restart = (n : ℕ) (ls : List ℕ) (w : Network) → faults n ls w ≡ accept → (bs : List (List Change))
    → Saved n ls (moment n ls w bs) (edges_now n w bs)
