-- Number 13 never comes on a network of these calls, nor on any words: document 01, "restless" ("some station waits after n rounds"). Assumes nothing.
--
--   Never r      == the reply r is not number 13
--   FitList xs   == each word of the list xs is of 32 bits, as any list of words is that can be lent
--
-- and the claims, each with its theorem in proofs/Never.antt, the last two in proofs/Numbers.antt:
--
--   OpenNever     == an opening is never refused for 13, whatever it is lent                                           open_never
--   BatchNever    == nor is a batch, after an accepted opening and any list of batches                                 batch_never
--   QueryNever    == nor is a query there                                                                              query_never
--   AnyBatchNever == nor is a batch on any network at all, whatever words of 32 bits its row lists hold                 any_batch_never
--   AnyQueryNever == nor is a query there                                                                              any_query_never
use Rattle.std.specs.Prelude.{◌≡◌, List, ℕ, ◌≤◌, get_or}
use Rattle.property.specs.Property.{M}
use Rattle.graph.specs.Refusal.{accept, Reply, refused}
use Rattle.network.specs.Network.{Network, faults}
use Rattle.network.specs.Open.{open_call}
use Rattle.network.specs.Query.{Query, Words, query_call}
use Rattle.network.specs.Change.{Change}
use Rattle.network.specs.Batch.{batch_call}
use Rattle.network.specs.History.{moment}

abbrev pub Never : {A : Type 0} → Reply A → Type 0
Never r = (i : ℕ) → r ≡ refused 13 i → ⊥

abbrev pub FitList : List ℕ → Type 0
FitList xs = (i : ℕ) → get_or xs i 0 ≤ M

abbrev pub OpenNever : Type 0
OpenNever = (n : ℕ) (ls : List ℕ) (w : Network) → Never (open_call n ls w).reply

abbrev pub BatchNever : Type 0
BatchNever = (n : ℕ) (ls : List ℕ) (w : Network) → faults n ls w ≡ accept → (bs : List (List Change)) (b : List Change)
    → Never (batch_call n ls (moment n ls w bs) b).reply

abbrev pub QueryNever : Type 0
QueryNever = (n : ℕ) (ls : List ℕ) (w : Network) → faults n ls w ≡ accept → (bs : List (List Change)) (q : Query) (out : Words)
    → Never (query_call n ls (moment n ls w bs) q out).reply

abbrev pub AnyBatchNever : Type 0
AnyBatchNever = (n : ℕ) (ls : List ℕ) (w : Network) → FitList w.memory.rows.forward → FitList w.memory.rows.backward → (b : List Change)
    → Never (batch_call n ls w b).reply

abbrev pub AnyQueryNever : Type 0
AnyQueryNever = (n : ℕ) (ls : List ℕ) (w : Network) → FitList w.memory.rows.forward → FitList w.memory.rows.backward → (q : Query) (out : Words)
    → Never (query_call n ls w q out).reply
