-- A query's refusals: as the code groups them, and what is known where none applies. Assumes nothing.
use Rattle.property.proofs.Basics.{◌≡◌, List, [], ◌∷◌, ℕ, zero, suc, ◌<◌, ◌≤◌, arith, length, get_or, ltb, ltb-true, ltb-false, not-false}
use Rattle.graph.specs.Limits.{max_edges}
use Rattle.graph.specs.Refusal.{accept, ◌▷◌}
use Rattle.graph.specs.Table.{rules, size, short_table, table}
use Rattle.graph.specs.Code.{Room}
use Rattle.graph.proofs.Tests.{neither}
use Rattle.graph.proofs.Verdicts.{then_accept, if_accept, then_assoc}
use Rattle.run.specs.Code.{Scheduled}
use Rattle.network.specs.Network.{Network, edges_in, short_rows, landmarks}
use Rattle.network.specs.Query.{Query, scheduled, long_schedule, short_words, requested, query_faults}
use Rattle.network.proofs.Query.{query_parts, query_request}
use Rattle.query.specs.Code.{Rowed}
use Rattle.graph.proofs.Judging.{size_accept, lengths_accept, table_accept}
use Rattle.calls.proofs.Judging.{rows_accept, landmarks_accept}

-- ---- as the code groups them

pub faults_flat : (n : ℕ) (ls : List ℕ) (w : Network) (q : Query) (x y : ℕ)
    → ((size n ▷ long_schedule (length q.schedule)) ▷ (short_table w.memory.table ▷ short_rows n ls w.memory.rows) ▷ short_words n x y
    ▷ (landmarks n ls ▷ table n w.memory.table w.count) ▷ requested n q) ≡ query_faults n ls w q x y
unfolding query_faults
faults_flat n ls w q x y = simp then_assoc

-- ---- what is known where none applies

schedule_accept : (n i : ℕ) (vs : List ℕ) → scheduled n i vs ≡ accept → (k : ℕ) → k < length vs → get_or vs k 0 < n
unfolding scheduled
schedule_accept n i [] h k l = absurd (omega arith)
schedule_accept n i (v ∷ vs) h zero l = ltb-true v n (not-false _ (if_accept _ 6 i (then_accept _ _ h).0))
schedule_accept n i (v ∷ vs) h (suc k) l = schedule_accept n (suc i) vs (then_accept _ _ h).1 k (omega arith)

-- the query may run: its table keeps the rules, and nothing that it reads or writes is out of range
pub record Sound (n : ℕ) (ls : List ℕ) (w : Network) (q : Query) (x y : ℕ) : Type 0 where
  pub room : let t = w.memory.table in Room max_edges t.tails t.heads t.weights
  pub records : w.count ≤ max_edges
  pub rules : rules n (edges_in w) ≡ accept
  pub rows : Rowed n ls q.property q.source w.memory.rows.forward w.memory.rows.backward
  pub schedule : Scheduled n q.schedule
  pub starts : n ≤ x
  pub settled : n ≤ y

module _ (n : ℕ) (ls : List ℕ) (w : Network) (q : Query) (x y : ℕ) where
  pub faults_accept : query_faults n ls w q x y ≡ accept → Sound n ls w q x y
  faults_accept h =
      let cs = w.memory.table in
      let xs = w.memory.rows in
      let part = query_parts n ls w q x y h in
      let ask = query_request n ls w q x y h in
      let row = rows_accept n ls xs.forward xs.backward part.3 in
      let out = neither (ltb x n) (ltb y n) (if_accept _ 2 0 part.4) in
      let good = table_accept n cs w.count part.6 in
      record {
        room = lengths_accept cs.tails cs.heads cs.weights part.2;
        records = good.0;
        rules = good.1;
        rows = record {
          few = (size_accept n part.0).1;
          landmarks = (landmarks_accept n ls part.5).0;
          first = ask.0;
          last = ask.1;
          source = ask.2;
          forward = row.0;
          backward = row.1;
        };
        schedule = record { few = ltb-false _ _ (if_accept _ 1 0 part.1); inside = schedule_accept n 0 q.schedule ask.3 };
        starts = ltb-false _ _ out.0;
        settled = ltb-false _ _ out.1;
      }
