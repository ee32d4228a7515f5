-- Edges between n vertices, all that theorems about runs need of the table's rules: document 01, "Network". Assumes nothing.
--
--   Within n es   == tails and heads are below n, and weights are words of 32 bits
use mathlib.Core.List.{List, Memᴰ}
use Rattle.std.specs.Prelude.{ℕ, ◌≤◌, ◌<◌}
use Rattle.property.specs.Property.{M}
use Rattle.graph.specs.Edge.{Edge}

pub record Within (n : ℕ) (es : List Edge) : Type 0 where
  pub tails : (e : Edge) → Memᴰ e es → e.tail < n
  pub heads : (e : Edge) → Memᴰ e es → e.head < n
  pub weights : (e : Edge) → Memᴰ e es → e.weight ≤ M
