-- What a caller holds from call to call: document 01, "Query" ("a network opened and changed by these calls alone"). Assumes nothing.
--
--   holding es ls n       == a network of the edges es before its opening: lists just long enough, filled up with zeros
--   opened_network n ls w == the network after its opening: the lists as the call left them, the opening's count
--   reported k r          == the present count after a batch: the one reported, or k where the batch was refused
--   hand_on w o           == the network after a batch with outcome o
--   lived n ls w bs       == the network after the batches bs: each gets the same n and landmarks and the present count
--   queried n ls w p s vs == a query for property p from s with the schedule vs, its answer in lists of n words
use mathlib.Core.List.{List, foldl}
use Rattle.std.specs.Prelude.{ℕ, ◌*◌, length, replicate}
use Rattle.graph.specs.Refusal.{Reply, accepted, refused, Outcome}
use Rattle.graph.specs.Edge.{Edge}
use Rattle.run.specs.Run.{Tally}
use Rattle.network.specs.Network.{Memory, Network, row_count}
use Rattle.network.specs.Open.{open_call}
use Rattle.network.specs.Query.{Words, query_call}
use Rattle.network.specs.Change.{Change}
use Rattle.network.specs.Batch.{Report, column, batch_call}

abbrev pub holding : List Edge → List ℕ → ℕ → Network
holding es ls n = record {
  memory = record {
    table = record { tails = column (λ e. e.tail) es; heads = column (λ e. e.head) es; weights = column (λ e. e.weight) es };
    rows = record { forward = replicate (row_count ls * n) 0; backward = replicate (row_count ls * n) 0 };
  };
  count = length es;
}

abbrev pub opened_network : ℕ → List ℕ → Network → Network
opened_network n ls w = record { memory = (open_call n ls w).memory; count = w.count }

unfoldable pub reported : ℕ → Reply Report → ℕ
reported k (accepted r) = r.count
reported k (refused j i) = k

abbrev pub hand_on : Network → Outcome Report Memory → Network
hand_on w o = record { memory = o.memory; count = reported w.count o.reply }

abbrev pub lived : ℕ → List ℕ → Network → List (List Change) → Network
lived n ls w bs = foldl (λ v b. hand_on v (batch_call n ls v b)) w bs

abbrev pub queried : ℕ → List ℕ → Network → ℕ → ℕ → List ℕ → Outcome Tally Words
queried n ls w p s vs =
    query_call n ls w (record { property = p; source = s; schedule = vs }) (record { starts = replicate n 0; settled = replicate n 0 })
