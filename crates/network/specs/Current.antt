-- The network as it is now: document 01, by that name; document 02, One. It is reckoned from the opening's edges and the change records alone,
-- never from the program's words. Assumes nothing.
--
--   turned_back n es b   == what "Turned back" says of the batch b where the edges are es: 1, and 6 to 12 of its items. (On a network
--                          of our calls n, the lists, the landmarks and the table are good, and nothing waits after n rounds, so that
--                          2 to 4 and 13 can't come: `BatchHolds` claims that the call gives this very number and place.)
--   query_back n q out == what "Turned back" says of a query on a network of our calls: 1, 2, 5 and 6
--   after n es b       == the edges after the batch b: its changes item by item where it is accepted, and else as they were
--   current n es bs    == the network as it is now: the opening's edges es after the batches bs
use mathlib.Core.List.{List, foldl}
use Rattle.std.specs.Prelude.{ℕ, length}
use Rattle.graph.specs.Refusal.{Verdict, ◌▷◌, choose}
use Rattle.graph.specs.Edge.{Edge}
use Rattle.network.specs.Query.{Query, Words, long_schedule, short_words, requested}
use Rattle.network.specs.Change.{Change, edits, items}
use Rattle.network.specs.Batch.{long_batch}

-- ---- when a call on a network of our calls is turned back: 13 never comes there

unfoldable pub turned_back : ℕ → List Edge → List Change → Verdict
turned_back n es b = long_batch (length b) ▷ items n 0 es b

abbrev pub query_back : ℕ → Query → Words → Verdict
query_back n q out = long_schedule (length q.schedule) ▷ short_words n (length out.starts) (length out.settled) ▷ requested n q

-- ---- the edges after batches

unfoldable pub after : ℕ → List Edge → List Change → List Edge
after n es b = choose (turned_back n es b) (edits es b) es

abbrev pub current : ℕ → List Edge → List (List Change) → List Edge
current n es bs = foldl (after n) es bs
