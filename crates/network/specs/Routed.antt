-- The no-route word on a network of these calls: it stands exactly where there is no route. Beside demand 2, which says that words are best
-- values, and from which alone a value that had come to the no-route word could not be told from no route. Assumes nothing.
--
--   RoutedRows n ls es w == each word of the rows of w is the no-route word exactly where the edges es have no route
--   RoutedAt n ls es w   == so is each word of the rows, and each settled word of an accepted query
--   WordsRouted          == the claim: they are so after any list of batches
use Rattle.std.specs.Prelude.{◌≡◌, List, ℕ, ◌<◌}
use Rattle.property.specs.Property.{property}
use Rattle.graph.specs.Refusal.{accept, accepted}
use Rattle.graph.specs.Edge.{Edge}
use Rattle.graph.specs.Routed.{Routed}
use Rattle.run.specs.Run.{Tally, word}
use Rattle.network.specs.Network.{Network, faults, row_count, row, property_of, landmark_of}
use Rattle.network.specs.Query.{Query, Words, query_call}
use Rattle.network.specs.Change.{Change}
use Rattle.network.specs.History.{moment, edges_now}

pub record RoutedRows (n : ℕ) (ls : List ℕ) (es : List Edge) (w : Network) : Type 0 where
  pub forward : (r t : ℕ) → r < row_count ls → t < n
      → Routed (property_of r) es (landmark_of ls r) t (word (property_of r) (row n r w.memory.rows.forward) t)
  pub backward : (r t : ℕ) → r < row_count ls → t < n
      → Routed (property_of r) es t (landmark_of ls r) (word (property_of r) (row n r w.memory.rows.backward) t)

pub record RoutedAt (n : ℕ) (ls : List ℕ) (es : List Edge) (w : Network) : Type 0 where
  pub rows : RoutedRows n ls es w
  pub query : (q : Query) (out : Words) (tally : Tally) → (query_call n ls w q out).reply ≡ accepted tally → (t : ℕ) → t < n
      → Routed (property q.property) es q.source t (word (property q.property) (query_call n ls w q out).memory.settled t)

abbrev pub WordsRouted : Type 0
WordsRouted = (n : ℕ) (ls : List ℕ) (w : Network) → faults n ls w ≡ accept → (bs : List (List Change))
    → RoutedAt n ls (edges_now n w bs) (moment n ls w bs)
