-- What the functions that read network text hold and answer. Assumes nothing.
--
--   item_of x               == a Said as an item
--   item_said x             == likewise, where a line says one
--   Table n m k ts hs ws    == three lists hold k edges, of m in all (M2), that keep the rules of n vertices
--   Held s ts hs ws         == three lists with room for every edge, which hold those of the state s
--   state_of ts hs ws s     == a State as the definition's, with the edges that three lists hold
--   step_of ts hs ws r      == likewise, where a good text can go on
--   read_of ts hs ws r      == what a text comes to: its size with those edges, or the line of the refusal
--   Keeps r ts hs ws        == where r goes on, the lists hold what its state says
--   Whole r ts hs ws        == where the text is good, the lists hold its edges; a refusal is of number 14
--   sized z                 == a Size as document 01's
--   reading r               == the program's reply as document 01's
--   read_outcome r ts hs ws == the program's reply r and the lent lists at exit, as an outcome
--   Inside s ts hs ws       == after the p line, the lists hold what the state s says
use Rattle.std.specs.Prelude.{◌≡◌, List, ℕ, ◌≤◌, Option, Some, None, Result, Ok, Err}
use Rattle.std.proofs.Math.Option as math
use Rattle.graph.specs.declared.refusal.Refusal.{Refusal}
use Rattle.graph.specs.Limits.{max_vertices, max_edges}
use Rattle.graph.specs.Refusal.{accept, Reply, Outcome}
use Rattle.graph.specs.Edge.{edge, edges}
use Rattle.graph.specs.Table.{Columns, rules}
use Rattle.graph.specs.Code.{number, place, reply_of, Room, columns}
use Rattle.dimacs.specs.Read.{Read, good, bad}
use Rattle.dimacs.specs.Network as net
use Rattle.dimacs.specs.Call as call
use Rattle.reader.specs.declared.network_text.Said.{Said}
use Rattle.reader.specs.declared.network_text.Said.TheVariants as said
use Rattle.reader.specs.declared.network_text.State.{State}
use Rattle.reader.specs.declared.network_text.State.TheVariants as state
use Rattle.reader.specs.declared.network_text.Size.{Size}

abbrev pub item_of : Said → net.Item
item_of (said.Problem n m) = net.problem n m
item_of (said.Arc t h w) = net.arc (edge t h w)

abbrev pub item_said : Option Said → math.Option net.Item
item_said (Some x) = math.some (item_of x)
item_said None = math.none

-- ---- the scratch table

pub record Table (n m k : ℕ) (ts hs ws : List ℕ) : Type 0 where
  pub small : n ≤ max_vertices
  pub few : m ≤ max_edges
  pub short : k ≤ m
  pub rules : rules n (edges ts hs ws k) ≡ accept

abbrev pub Inside : State → List ℕ → List ℕ → List ℕ → Type 0
Inside state.Start ts hs ws = Unit {0}
Inside (state.Within n m k) ts hs ws = Table n m k ts hs ws

pub record Held (s : State) (ts hs ws : List ℕ) : Type 0 where
  pub room : Room max_edges ts hs ws
  pub inside : Inside s ts hs ws

abbrev pub Keeps : Option State → List ℕ → List ℕ → List ℕ → Type 0
Keeps (Some s) ts hs ws = Held s ts hs ws
Keeps None ts hs ws = Unit {0}

abbrev pub Whole : Result Size Refusal → List ℕ → List ℕ → List ℕ → Type 0
Whole (Ok z) ts hs ws = (z.count ≤ max_edges) × Room max_edges ts hs ws
Whole (Err e) ts hs ws = number e ≡ 14

-- ---- answers

module _ (ts hs ws : List ℕ) where
  unfoldable pub state_of : State → net.State
  state_of state.Start = net.start
  state_of (state.Within n m k) = net.within n m (edges ts hs ws k)

  unfoldable pub step_of : Option State → math.Option net.State
  step_of (Some s) = math.some (state_of s)
  step_of None = math.none

  unfoldable pub read_of : Result Size Refusal → Read net.State
  read_of (Ok z) = good (net.within z.n z.count (edges ts hs ws z.count))
  read_of (Err e) = bad (place e)

-- ---- the call

abbrev pub sized : Size → call.Size
sized z = record { vertices = z.n; count = z.count }

abbrev pub reading : Result Size Refusal → Reply call.Size
reading r = reply_of sized r

abbrev pub read_outcome : Result Size Refusal → List ℕ → List ℕ → List ℕ → Outcome call.Size Columns
read_outcome r ts hs ws = record { reply = reading r; memory = columns ts hs ws }
