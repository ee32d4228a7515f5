-- What the functions on the rows of both sides of a batch are told and answer: es are the edges before the batch, fs those after it. Assumes
-- nothing.
--
--   Fair n ls w              == a network that numbers 1 to 4 let pass
--   Lined n xs is ris ns rns == what the rows are run on lies in range: the changes xs, and the indices of both tables and of both reversed ones,
--                                   those of the old one no longer than an index gets
--   Sides n es fs xs is ris ns rns == they have the batch
--   SidesDone n ls es fs f b f' b' a == the runs of all rows of the lists f and b came to a, and left f' and b'
use Rattle.std.specs.Prelude.{◌≡◌, ◌≢◌, ℕ, ◌+◌, ◌*◌, ◌≤◌, ◌<◌, length}
use mathlib.Core.List.{List, map, Memᴰ}
use Rattle.graph.specs.Limits.{max_vertices, max_edges}
use Rattle.graph.specs.Refusal.{over}
use Rattle.graph.specs.Edge.{Edge, reverse}
use Rattle.graph.specs.Index.{Fit, Own}
use Rattle.compare.specs.Code.{Inside, Differences}
use Rattle.rows.specs.declared.Rowed.{Rowed}
use Rattle.network.specs.Network.{Network, row_count, flat, stores_of}
use Rattle.network.specs.Batch.{batch_rows, affected_of}
use Rattle.calls.specs.Code.{Placed, Tabled}

pub record Fair (n : ℕ) (ls : List ℕ) (w : Network) : Type 0 where
  pub few : n ≤ max_vertices
  pub landmarks : Placed n ls
  pub table : Tabled n w.count w.memory.table.tails w.memory.table.heads w.memory.table.weights
  pub forward : row_count ls * n ≤ length w.memory.rows.forward
  pub backward : row_count ls * n ≤ length w.memory.rows.backward

pub record Lined (n : ℕ) (xs is ris ns rns : List ℕ) : Type 0 where
  pub inside : Inside n xs
  pub old : Fit n is
  pub rold : Fit n ris
  pub new : Fit n ns
  pub rnew : Fit n rns
  pub short : (length is ≤ max_vertices + 1 + max_edges) × (length ris ≤ max_vertices + 1 + max_edges)

pub record Sides (n : ℕ) (es fs : List Edge) (xs is ris ns rns : List ℕ) : Type 0 where
  pub before : (e : Edge) → Memᴰ e es → (e.tail < n) × (e.head < n) × (e.tail ≢ e.head)
  pub after : (e : Edge) → Memᴰ e fs → (e.tail < n) × (e.head < n)
  pub old : Own n is es
  pub rold : Own n ris (map reverse es)
  pub new : Own n ns fs
  pub rnew : Own n rns (map reverse fs)
  pub net : Differences es fs xs

module _ (n : ℕ) (ls : List ℕ) (es fs : List Edge) (f b : List ℕ) where
  pub record SidesDone (f' b' : List ℕ) (a : Rowed) : Type 0 where
    pub affected : a.affected ≡ affected_of n ls es fs f + affected_of n ls (map reverse es) (map reverse fs) b
    pub stores : a.stores ≡ stores_of (batch_rows n ls es fs f) + stores_of (batch_rows n ls (map reverse es) (map reverse fs) b)
    pub forward : f' ≡ over (flat (batch_rows n ls es fs f)) f
    pub backward : b' ≡ over (flat (batch_rows n ls (map reverse es) (map reverse fs) b)) b
