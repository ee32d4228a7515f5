-- What the calls on a network share: lists as what is lent, what a row's functions ask. Assumes nothing.
--
--   row_lists f b            == two lists as the landmark rows
--   lists ts hs ws f b       == five lists as the memory of a network
--   network ts hs ws f b m   == five lists and a count as a network
--   Placed n ls              == the landmarks ls are few, and vertices
--   Tabled n m ts hs ws      == three lists with room for every edge hold m edges that keep the rules of n vertices
--   Openable n m ls ts hs ws == the rows of a table may be run: it has m edges that keep the rules for n vertices, and the landmarks
--                                   are placed
use Rattle.std.specs.Prelude.{◌≡◌, List, ℕ, ◌≤◌, ◌<◌, length, get_or}
use Rattle.graph.specs.Limits.{max_vertices, max_edges, max_landmarks}
use Rattle.graph.specs.Refusal.{accept}
use Rattle.graph.specs.Edge.{edges}
use Rattle.graph.specs.Table as table
use Rattle.graph.specs.Code.{Room, columns}
use Rattle.network.specs.Network.{Rows, Memory, Network}

-- ---- lists as what is lent

abbrev pub row_lists : List ℕ → List ℕ → Rows
row_lists f b = record { forward = f; backward = b }

abbrev pub lists : List ℕ → List ℕ → List ℕ → List ℕ → List ℕ → Memory
lists ts hs ws f b = record { table = columns ts hs ws; rows = row_lists f b }

abbrev pub network : List ℕ → List ℕ → List ℕ → List ℕ → List ℕ → ℕ → Network
network ts hs ws f b m = record { memory = lists ts hs ws f b; count = m }

-- ---- what functions on rows ask

pub record Placed (n : ℕ) (ls : List ℕ) : Type 0 where
  pub few : length ls ≤ max_landmarks
  pub vertices : (i : ℕ) → i < length ls → get_or ls i 0 < n

pub record Tabled (n m : ℕ) (ts hs ws : List ℕ) : Type 0 where
  pub few : m ≤ max_edges
  pub room : Room max_edges ts hs ws
  pub rules : table.rules n (edges ts hs ws m) ≡ accept

pub record Openable (n m : ℕ) (ls ts hs ws : List ℕ) : Type 0 where
  pub few : n ≤ max_vertices
  pub records : m ≤ max_edges
  pub room : Room m ts hs ws
  pub rules : table.rules n (edges ts hs ws m) ≡ accept
  pub landmarks : Placed n ls
