-- Runs end, whatever words they start from: document 01, "Rounds go on while any waits" and number 13. Assumes nothing.
--
--   FitWords n st  == n words of 32 bits and n waiting bits, whatever they are
--   NothingWaits   == whatever the words, and whoever waits, nothing waits after n rounds
--   NothingWaitsOn == nor where a schedule went before them
--   AllRounds      == so at most n rounds are all the rounds that document 01 asks for
use Rattle.std.specs.Prelude.{◌≡◌, false, List, ℕ, ◌≤◌, ◌<◌, get_or, length}
use Rattle.property.specs.Property.{M, property}
use Rattle.frontier.specs.Waiting.{any_of}
use Rattle.graph.specs.Edge.{Edge}
use Rattle.graph.specs.Within.{Within}
use Rattle.run.specs.Run.{State, pass, settle}
use Rattle.run.specs.Rounds.{Rounds}

-- any words that a list of 32-bit words holds
pub record FitWords (n : ℕ) (st : State) : Type 0 where
  pub words : length st.words ≡ n
  pub waiting : length st.waiting ≡ n
  pub fits : (t : ℕ) → t < n → get_or st.words t 0 ≤ M

-- of a table only `Within` is used
abbrev pub NothingWaits : Type 0
NothingWaits = (p n : ℕ) (es : List Edge) (st : State) → Within n es → FitWords n st → any_of (settle (property p) es n n st).waiting ≡ false

abbrev pub NothingWaitsOn : Type 0
NothingWaitsOn = (p n : ℕ) (es : List Edge) (vs : List ℕ) (st : State) → Within n es → FitWords n st
    → any_of (settle (property p) es n n (pass (property p) es vs st)).waiting ≡ false

abbrev pub AllRounds : Type 0
AllRounds = (p n : ℕ) (es : List Edge) (st : State) → Within n es → FitWords n st → Rounds (property p) es n st (settle (property p) es n n st)
