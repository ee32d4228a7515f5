-- `graph::ends::carry_ends` meets its contract. Assumes nothing.
use Rattle.property.proofs.Basics.{◌≡◌, List, ℕ, ◌<◌, ◌≤◌, length, get_or}
use Rattle.graph.specs.Parted.{Ends, Parted}
use Rattle.graph.proofs.ends.carry_ends.Given as goal

abbrev pub invariant-loop-k : goal.invariant-loop-k
invariant-loop-k l =
    ((m : ℕ) (ks : List ℕ) → Ends m ks l.initial.ends → (u : ℕ) → u ≤ l.k → Parted m ks u (get_or l.ends u 0)) × ((u : ℕ) → l.k < u → get_or l.ends u 0 ≡ get_or l.initial.ends u 0)
    × (l.k ≤ l.n) × (length l.ends ≡ length l.initial.ends)
