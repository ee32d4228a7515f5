-- Runs: document 01, "Runs". They compute. Assumes nothing.
--
--   Tally                             == the tally: schedule entries taken ("picks taken"), rounds, stores that bettered a word
--   State                             == the words of a row, one waiting bit for each vertex, and the tally so far
--   word P ws t                       == the word of vertex t
--   waits st i                        == vertex i waits
--   relaxable P ws e                  == going along e would better its head's word
--   tight P ws e                      == going along e gives exactly its head's word
--   relax P st e                      == the state after going along e: where its head's word would get better, it is stored and set waiting
--   clear st i                        == vertex i waits no more
--   handle P es st i                  == vertex i is handled: its bit is cleared, then its edges are gone along in table order
--   visit P es st i                   == vertex i is handled if it waits
--   take_entry P es st i              == one entry of the schedule: handled and counted if it waits, else skipped
--   pass P es vs st                   == the schedule vs is gone through
--   round P es n st                   == one round: vertices ascending, each handled if waiting when its turn comes
--   settle P es n k st                == rounds while any waits, at most k of them
--   no_tally                          == the tally of a run that starts
--   one_taken, one_round, one_store   == the tally raised by a step
--   counted f st                      == the state st with its tally raised by f
--   store_if, visit_if, take_entry_if == what a step does where its test holds
use Rattle.std.specs.Prelude.{Bool, true, false, ℕ, zero, suc, get_or, set, eqb}
use mathlib.Core.List.{List, foldl}
use Rattle.property.specs.Property.{Property}
use Rattle.frontier.specs.Waiting.{any_of}
use Rattle.graph.specs.Edge.{Edge, leaving, range}

pub record Tally : Type 0 where
  pub taken : ℕ
  pub rounds : ℕ
  pub stores : ℕ

pub record State : Type 0 where
  pub words : List ℕ
  pub waiting : List Bool
  pub tally : Tally

abbrev pub no_tally : Tally
no_tally = record { taken = 0; rounds = 0; stores = 0 }

-- the tally is raised at each step
abbrev pub one_taken : Tally → Tally
one_taken c = record { taken = suc c.taken; rounds = c.rounds; stores = c.stores }

abbrev pub one_round : Tally → Tally
one_round c = record { taken = c.taken; rounds = suc c.rounds; stores = c.stores }

abbrev pub one_store : Tally → Tally
one_store c = record { taken = c.taken; rounds = c.rounds; stores = suc c.stores }

abbrev pub counted : (Tally → Tally) → State → State
counted f st = record { words = st.words; waiting = st.waiting; tally = f st.tally }

abbrev pub word : Property → List ℕ → ℕ → ℕ
word P ws t = get_or ws t P.none

abbrev pub waits : State → ℕ → Bool
waits st i = get_or st.waiting i false

abbrev pub relaxable : Property → List ℕ → Edge → Bool
relaxable P ws e = P.better (P.along (word P ws e.tail) e.weight) (word P ws e.head)

abbrev pub tight : Property → List ℕ → Edge → Bool
tight P ws e = eqb (P.along (word P ws e.tail) e.weight) (word P ws e.head)

unfoldable pub store_if : Bool → Property → State → Edge → State
store_if true P st e = record {
  words = set st.words e.head (P.along (word P st.words e.tail) e.weight);
  waiting = set st.waiting e.head true;
  tally = one_store st.tally;
}
store_if false P st e = st

unfoldable pub relax : Property → State → Edge → State
relax P st e = store_if (relaxable P st.words e) P st e

unfoldable pub clear : State → ℕ → State
clear st i = record { words = st.words; waiting = set st.waiting i false; tally = st.tally }

unfoldable pub handle : Property → List Edge → State → ℕ → State
handle P es st i = foldl (relax P) (clear st i) (leaving i es)

unfoldable pub visit_if : Bool → Property → List Edge → State → ℕ → State
visit_if true P es st i = handle P es st i
visit_if false P es st i = st

unfoldable pub visit : Property → List Edge → State → ℕ → State
visit P es st i = visit_if (waits st i) P es st i

unfoldable pub take_entry_if : Bool → Property → List Edge → State → ℕ → State
take_entry_if true P es st i = handle P es (counted one_taken st) i
take_entry_if false P es st i = st

unfoldable pub take_entry : Property → List Edge → State → ℕ → State
take_entry P es st i = take_entry_if (waits st i) P es st i

unfoldable pub pass : Property → List Edge → List ℕ → State → State
pass P es vs st = foldl (take_entry P es) st vs

unfoldable pub round : Property → List Edge → ℕ → State → State
round P es n st = foldl (visit P es) (counted one_round st) (range 0 n)

unfoldable pub settle : Property → List Edge → ℕ → ℕ → State → State
settle P es n zero st = st
settle P es n (suc k) st = elim (any_of st.waiting) [ true ↦ settle P es n k (round P es n st) | false ↦ st ]
