-- `items::lay::lay` meets its contract: the changes below i are laid. Assumes nothing.
use Rattle.property.proofs.Basics.{◌≡◌, List, [], ℕ, ◌+◌, ◌≤◌, length, get_or}
use Rattle.network.specs.Change.{Change}
use Rattle.items.specs.Code.{change_of, laid_all}
use Rattle.items.proofs.lay.lay.Given as goal

-- change i of those from an index on
abbrev pub from_on : List (List ℕ) → ℕ → ℕ → Change
from_on changes from i = change_of (get_or changes (from + i) [])

abbrev pub invariant-loop-i : goal.invariant-loop-i
invariant-loop-i l =
    (l.lists ≡ laid_all (from_on l.changes l.from) l.initial.lists l.i) × (l.i ≤ l.most) × (length l.lists ≡ length l.initial.lists)
