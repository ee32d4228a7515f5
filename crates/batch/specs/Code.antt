-- A lent slice of change records, and its words in five lists. Assumes nothing.
--
--   recorded c     == an element of the slice of changes, as a change record
--   no_change      == what is read past the last of them
--   record_at ys i == element i of the slice ys, as a change record
--   copied ys xs k == the five lists in xs after the first k records of ys went there, each to its own place
use Rattle.std.specs.Prelude.{List, ℕ, get_or}
use Rattle.batch.specs.declared.Change as slice
use Rattle.network.specs.Change.{Change}
use Rattle.items.specs.Code.{change, laid_all}

abbrev pub recorded : slice.Change → Change
recorded c = change c.kind c.tail c.head c.weight c.old

abbrev pub no_change : slice.Change
no_change = record { kind = 0; tail = 0; head = 0; weight = 0; old = 0 }

abbrev pub record_at : List slice.Change → ℕ → Change
record_at ys i = recorded (get_or ys i no_change)

abbrev pub copied : List slice.Change → List ℕ → ℕ → List ℕ
copied ys xs k = laid_all (record_at ys) xs k
