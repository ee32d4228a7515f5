-- Refusals: document 01, "Turned back". A call is judged by a chain in the order of the table's numbers, and what it lends
-- is new where the chain accepts and as before where it refuses. Assumes nothing.
--
--   Verdict             == accept, or refuse with number and place
--   a ▷ b               == a where it refuses, else b: "the lowest number that applies is given"
--   refuse_if t k i     == number k at place i where the test t holds
--   Reply A             == what a caller is told: accepted with an A, or refused with number and place
--   replied v a         == the reply under the verdict v: a where it accepts
--   verdict_of r        == the verdict that a reply tells
--   Outcome A L         == the reply of a call, and everything lent to it as it is at exit
--   choose v new old    == new where v accepts, old where it refuses
--   outcome v a new old == accepted with a and new, or refused with all as before: "No lent memory changes"
--   over new old        == new entries in front of a list; those past them stay
use Rattle.std.specs.Prelude.{Bool, true, false, List, ◌++◌, ℕ, length, drop}

pub data Verdict : Type 0 where
  accept : Verdict
  refuse : ℕ → ℕ → Verdict

infixr 20 ◌▷◌
unfoldable pub ◌▷◌ : Verdict → Verdict → Verdict
◌▷◌ accept v = v
◌▷◌ (refuse k i) v = refuse k i

unfoldable pub refuse_if : Bool → ℕ → ℕ → Verdict
refuse_if true k i = refuse k i
refuse_if false k i = accept

pub data Reply (A : Type 0) : Type 0 where
  accepted : A → Reply A
  refused : ℕ → ℕ → Reply A

unfoldable pub replied : {A : Type 0} → Verdict → A → Reply A
replied accept a = accepted a
replied (refuse k i) a = refused k i

unfoldable pub verdict_of : {A : Type 0} → Reply A → Verdict
verdict_of (accepted a) = accept
verdict_of (refused k i) = refuse k i

pub record Outcome (A L : Type 0) : Type 0 where
  pub reply : Reply A
  pub memory : L

unfoldable pub choose : {A : Type 0} → Verdict → A → A → A
choose accept new old = new
choose (refuse k i) new old = old

abbrev pub outcome : {A L : Type 0} → Verdict → A → L → L → Outcome A L
outcome v a new old = record { reply = replied v a; memory = choose v new old }

abbrev pub over : {A : Type 0} → List A → List A → List A
over new old = new ++ drop (length new) old
