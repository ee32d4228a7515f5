-- `query::join_row_of` meets its contract. Assumes nothing.
use Rattle.property.proofs.Basics.{◌≡◌, ℕ, ◌+◌, ◌<◌, ◌≤◌, get_or}
use Rattle.property.specs.Property.{property}
use Rattle.run.specs.Start.{finer}
use Rattle.query.proofs.join_row_of.Given as goal

-- the words below t are joined, the others as they were
abbrev pub invariant-loop-t : goal.invariant-loop-t
invariant-loop-t l =
    ((j : ℕ) → j < l.t → get_or l.out j 0 ≡ finer (property l.p) ((property l.p).join l.b (get_or l.forward (l.at + j) 0)) (get_or l.initial.out j 0))
    × ((j : ℕ) → l.t ≤ j → get_or l.out j 0 ≡ get_or l.initial.out j 0)
