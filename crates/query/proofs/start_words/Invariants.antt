-- `query::start_words` meets its contract. The loop's invariant: the words are the bounds over the landmarks from i on. Assumes nothing.
use Rattle.property.proofs.Basics.{◌≡◌, ℕ, ◌<◌, length, get_or}
use Rattle.property.specs.Property.{property}
use Rattle.query.proofs.Asking.{entry, bound_from}
use Rattle.query.proofs.start_words.Given as goal

abbrev pub invariant-loop-i : goal.invariant-loop-i
invariant-loop-i l =
    ((t : ℕ) → t < l.n → get_or l.out t 0 ≡ bound_from (property l.p) (entry l.n l.landmarks l.p l.source l.forward l.backward) (length l.landmarks) t l.i) × (length l.out ≡ l.n)
