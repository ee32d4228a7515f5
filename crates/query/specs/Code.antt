-- What the functions of a query take and answer. Assumes nothing.
--
--   asking p s vs           == numbers and a schedule as a query
--   words_of xs ys          == two lists as those lent for the answer
--   answering r             == the program's reply as document 01's
--   as_outcome r xs ys      == the program's reply r and the two lists at exit, as an outcome
--   known_by n ls p s f b   == what the row lists f and b tell of the landmarks ls: a query's `known`, which reads nothing else
--   run_from P es n s vs ws == the state after a query's run: from the start words ws, with the source s alone waiting, the schedule vs and the rounds
--   Ended st t ys zs        == a run that ended in the state st has the tally t, and its words stand at the front of the list zs, which was ys
--   Rowed n ls p s f b      == p is a property, s one of not too many vertices, and both row lists have every row of the landmarks ls
use Rattle.std.specs.Prelude.{◌≡◌, true, false, List, [], ℕ, ◌*◌, ◌<◌, ◌≤◌, length, set, replicate, Result}
use Rattle.property.specs.Property.{Property, properties}
use Rattle.graph.specs.Limits.{max_vertices, max_landmarks}
use Rattle.graph.specs.declared.refusal.Refusal.{Refusal}
use Rattle.graph.specs.Refusal.{Reply, Outcome, over}
use Rattle.graph.specs.Edge.{Edge}
use Rattle.graph.specs.Code.{reply_of}
use Rattle.run.specs.Run.{State, Tally, no_tally, pass, settle}
use Rattle.run.specs.declared.Tally as declared
use Rattle.run.specs.Code.{counts}
use Rattle.run.specs.Start.{Landmark}
use Rattle.network.specs.Network.{row_count}
use Rattle.network.specs.Query.{Query, Words, known}
use Rattle.calls.specs.Code.{network}

abbrev pub asking : ℕ → ℕ → List ℕ → Query
asking p s vs = record { property = p; source = s; schedule = vs }

abbrev pub words_of : List ℕ → List ℕ → Words
words_of xs ys = record { starts = xs; settled = ys }

abbrev pub answering : Result declared.Tally Refusal → Reply Tally
answering r = reply_of counts r

abbrev pub as_outcome : Result declared.Tally Refusal → List ℕ → List ℕ → Outcome Tally Words
as_outcome r xs ys = record { reply = answering r; memory = words_of xs ys }

-- ---- the run

abbrev pub run_from : Property → List Edge → ℕ → ℕ → List ℕ → List ℕ → State
run_from P es n s vs ws = settle P es n n (pass P es vs (record { words = ws; waiting = set (replicate n false) s true; tally = no_tally }))

abbrev pub Ended : State → declared.Tally → List ℕ → List ℕ → Type 0
Ended st t ys zs = (counts t ≡ st.tally) × (zs ≡ over st.words ys)

-- ---- start words

abbrev pub known_by : ℕ → List ℕ → ℕ → ℕ → List ℕ → List ℕ → List Landmark
known_by n ls p s f b = known n ls (network [] [] [] f b 0) (asking p s [])

pub record Rowed (n : ℕ) (ls : List ℕ) (p s : ℕ) (f b : List ℕ) : Type 0 where
  pub few : n ≤ max_vertices
  pub landmarks : length ls ≤ max_landmarks
  pub first : 0 < p
  pub last : p ≤ properties
  pub source : s < n
  pub forward : row_count ls * n ≤ length f
  pub backward : row_count ls * n ≤ length b
