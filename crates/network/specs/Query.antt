-- A query: document 01, "Query". It returns no table and no rows: it writes none of that memory. Assumes nothing.
--
--   Query               == what is asked: property, source, schedule
--   Words               == the two lists lent for the answer: start words and settled words
--   known n ls w q      == what the rows of the property tell of each landmark: the backward word of the source, the forward row
--   at_start n ls w q   == the state at the start: the start words, with its value at the source; only the source waits
--   at_rounds n ls w q  == the state after the schedule
--   at_end n ls w q     == the state after the rounds, at most n
--   scheduled n i vs    == number 6 at the first entry of the schedule, from index i, that is no vertex
--   long_schedule k     == number 1 of a schedule of k entries
--   short_words n a b   == number 2 of lists of a and b words for the answer
--   requested n q       == numbers 5 and 6 of what is asked
--   query_faults .. a b == every refusal that comes before the run, where the lists for the answer have a and b words
--   query_verdict out   == when the call is refused: those, then 13
--   query_call          == reply (the tally) and both lists at exit: words past n stay
--   row_at i p          == the row of landmark i (an index of the list) for property p
--   asks                == the property that is asked
--   answered out        == the two lists after the query
use Rattle.std.specs.Prelude.{not, ◌||◌, List, [], ◌∷◌, map, ℕ, suc, ◌+◌, ◌*◌, ◌-◌, length, get_or, ltb}
use Rattle.property.specs.Property.{Property, property, properties, is_property}
use Rattle.frontier.specs.Waiting.{any_of}
use Rattle.graph.specs.Limits.{max_schedule}
use Rattle.graph.specs.Refusal.{Verdict, accept, ◌▷◌, refuse_if, Outcome, outcome, over}
use Rattle.graph.specs.Edge.{range}
use Rattle.graph.specs.Table.{size, short_table, table}
use Rattle.run.specs.Run.{State, Tally, word, pass, settle}
use Rattle.run.specs.Start.{Landmark, asked}
use Rattle.network.specs.Network.{Network, edges_in, short_rows, landmarks, row}

pub record Query : Type 0 where
  pub property : ℕ
  pub source : ℕ
  pub schedule : List ℕ

pub record Words : Type 0 where
  pub starts : List ℕ
  pub settled : List ℕ

-- ---- its own refusals

unfoldable pub scheduled : ℕ → ℕ → List ℕ → Verdict
scheduled n i [] = accept
scheduled n i (v ∷ vs) = refuse_if (not (ltb v n)) 6 i ▷ scheduled n (suc i) vs

abbrev pub long_schedule : ℕ → Verdict
long_schedule k = refuse_if (ltb max_schedule k) 1 0

abbrev pub short_words : ℕ → ℕ → ℕ → Verdict
short_words n a b = refuse_if (ltb a n || ltb b n) 2 0

abbrev pub requested : ℕ → Query → Verdict
requested n q = refuse_if (not (is_property q.property)) 5 0 ▷ refuse_if (not (ltb q.source n)) 6 0 ▷ scheduled n 0 q.schedule

-- ---- the run

-- the row of landmark i (an index of the list) for property p
abbrev pub row_at : ℕ → ℕ → ℕ
row_at i p = i * properties + (p - 1)

module _ (n : ℕ) (ls : List ℕ) (w : Network) (q : Query) where
  abbrev pub asks : Property
  asks = property q.property

  abbrev pub known : List Landmark
  known = map (λ i. record {
    vertex = get_or ls i 0;
    into = word asks (row n (row_at i q.property) w.memory.rows.backward) q.source;
    row = row n (row_at i q.property) w.memory.rows.forward;
  }) (range 0 (length ls))

  abbrev pub at_start : State
  at_start = asked asks known n q.source

  abbrev pub at_rounds : State
  at_rounds = pass asks (edges_in w) q.schedule at_start

  abbrev pub at_end : State
  at_end = settle asks (edges_in w) n n at_rounds

  unfoldable pub query_faults : ℕ → ℕ → Verdict
  query_faults a b =
      size n
      ▷ long_schedule (length q.schedule)
      ▷ short_table w.memory.table
      ▷ short_rows n ls w.memory.rows
      ▷ short_words n a b
      ▷ landmarks n ls
      ▷ table n w.memory.table w.count
      ▷ requested n q

  abbrev pub query_verdict : Words → Verdict
  query_verdict out = query_faults (length out.starts) (length out.settled) ▷ refuse_if (any_of at_end.waiting) 13 0

  abbrev pub answered : Words → Words
  answered out = record { starts = over at_start.words out.starts; settled = over at_end.words out.settled }

  unfoldable pub query_call : Words → Outcome Tally Words
  query_call out = outcome (query_verdict out) at_end.tally (answered out) out
