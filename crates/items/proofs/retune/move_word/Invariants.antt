-- `items::retune::move_word` meets its contract: with the word at k struck, the list is the one at entry with that at i struck. Assumes nothing.
use Rattle.property.proofs.Basics.{max, ◌≤◌, ◌<◌, ◌≡◌, length}
use Rattle.graph.specs.Code.{delete_at}
use Rattle.items.proofs.retune.move_word.Given as goal

abbrev pub invariant-loop-k : goal.invariant-loop-k
invariant-loop-k l =
    (delete_at l.k l.words ≡ delete_at l.i l.initial.words) × (l.k ≤ max l.i l.j) × (l.k < length l.initial.words) × (length l.words ≡ length l.initial.words)

abbrev pub invariant-loop-k-2 : goal.invariant-loop-k-2
invariant-loop-k-2 l =
    (delete_at (max l.k l.j) l.words ≡ delete_at l.i l.fn.words) × (l.k < length l.words) × (length l.words ≡ length l.initial.words)
