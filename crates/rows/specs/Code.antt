-- What the functions on the rows of one side of a batch hold and answer: es are the edges before the batch, fs those after it. Assumes
-- nothing.
--
--   Lined n xs is ns rs          == what the rows of a side are run on lies in range: the changes xs, and the indices is, ns and rs
--   Sided n es fs xs is ns rs    == they have the batch: xs its changes, is the edges before it, ns those after it and rs those reversed
--   RowLow a, RowsLow a          == the answer for a row, and for all rows of a list, is no larger than it can be
--   RowDone n ls es fs vs r xs a == the run of row r left the words xs, and its answer is a
--   RowsDone n ls es fs xs ys a  == the runs of all rows of the list xs left the list ys, and their answer is a
use Rattle.std.specs.Prelude.{◌≡◌, List, ℕ, ◌*◌, ◌≤◌}
use Rattle.property.specs.Property.{properties}
use Rattle.frontier.specs.Waiting.{count_of}
use Rattle.graph.specs.Limits.{max_vertices, max_edges, max_landmarks}
use Rattle.graph.specs.Refusal.{over}
use Rattle.graph.specs.Edge.{Edge}
use Rattle.graph.specs.Index.{Fit, Own}
use Rattle.compare.specs.Code.{Inside}
use Rattle.prepare.specs.Code.{Batched}
use Rattle.rows.specs.declared.Rowed.{Rowed}
use Rattle.network.specs.Network.{flat, stores_of}
use Rattle.network.specs.Batch.{row_affected, row_end, batch_rows, affected_of}

pub record Lined (n : ℕ) (xs is ns rs : List ℕ) : Type 0 where
  pub inside : Inside n xs
  pub old : Fit n is
  pub new : Fit n ns
  pub into : Fit n rs

pub record Sided (n : ℕ) (es fs : List Edge) (xs is ns rs : List ℕ) : Type 0 where
  pub batch : Batched n es fs is rs xs
  pub new : Own n ns fs

pub record RowLow (a : Rowed) : Type 0 where
  pub few : a.affected ≤ max_vertices
  pub low : a.stores ≤ max_vertices * max_vertices * max_edges

pub record RowDone (n : ℕ) (ls : List ℕ) (es fs : List Edge) (vs : List ℕ) (r : ℕ) (xs : List ℕ) (a : Rowed) : Type 0 where
  pub words : xs ≡ (row_end n ls es fs vs r).words
  pub affected : a.affected ≡ count_of (row_affected n ls es fs vs r)
  pub stores : a.stores ≡ (row_end n ls es fs vs r).tally.stores

pub record RowsLow (a : Rowed) : Type 0 where
  pub few : a.affected ≤ max_landmarks * properties * max_vertices
  pub low : a.stores ≤ max_landmarks * properties * (max_vertices * max_vertices * max_edges)

pub record RowsDone (n : ℕ) (ls : List ℕ) (es fs : List Edge) (xs ys : List ℕ) (a : Rowed) : Type 0 where
  pub words : ys ≡ over (flat (batch_rows n ls es fs xs)) xs
  pub affected : a.affected ≡ affected_of n ls es fs xs
  pub stores : a.stores ≡ stores_of (batch_rows n ls es fs xs)
