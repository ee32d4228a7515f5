-- Rounds without a bound: document 01, "Runs". Assumes nothing.
--
--   Rounds P es n st en   == rounds from st, which go on while any waits, end in en
use Rattle.std.specs.Prelude.{◌≡◌, true, false, List, ℕ}
use Rattle.property.specs.Property.{Property}
use Rattle.frontier.specs.Waiting.{any_of}
use Rattle.graph.specs.Edge.{Edge}
use Rattle.run.specs.Run.{State, round}

-- "Rounds go on while any waits."
pub data Rounds (P : Property) (es : List Edge) (n : ℕ) : State → State → Type 0 where
  rests : {st : State} → any_of st.waiting ≡ false → Rounds P es n st st
  goes : {st en : State} → any_of st.waiting ≡ true → Rounds P es n (round P es n st) en → Rounds P es n st en
