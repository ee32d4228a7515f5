-- What the functions of a run hold and answer, as states of a run. Assumes nothing.
--
--   bits n bs                    == who waits of n vertices, in words of 64 bits
--   Idle n bs                    == no bit past the n vertices is set
--   counts t                     == the program's Tally as a tally
--   no_counts                    == the program's Tally of a run that starts
--   state n ws bs t              == the words ws, the waiting bits in the words bs and the Tally t, as a state
--   Marks n bs                   == bs has a bit for each of n vertices, and none past them is set
--   Sized n ws bs                == there are n words, and bits for n vertices
--   Low k t                      == each count of t is below 2 ^ k
--   Ready k b n fs hs xs ws bs t == a run may go on: the places fs of n vertices in the heads hs and weights xs fit, the state is sized, the counts are low
--   Ran n ws bs t r a b c        == what a run from t left: a sized state, and r, in which a more were taken, b rounds and c stores, at most
--   Scheduled n vs               == a schedule for n vertices: not too long, and of those alone
use Rattle.std.specs.Prelude.{◌≡◌, Bool, false, List, ℕ, ◌+◌, ◌^◌, ◌≤◌, ◌<◌, length, get_or, take}
use Rattle.frontier.specs.Waiting.{waiting_of, capacity}
use Rattle.graph.specs.Limits.{max_schedule}
use Rattle.graph.specs.Index.{FitIn}
use Rattle.run.specs.declared.Tally.{Tally}
use Rattle.run.specs.Run as run

-- ---- what is held, as a state

abbrev pub bits : ℕ → List ℕ → List Bool
bits n bs = take n (waiting_of bs)

abbrev pub Idle : ℕ → List ℕ → Type 0
Idle n bs = (k : ℕ) → n ≤ k → get_or (waiting_of bs) k false ≡ false

abbrev pub counts : Tally → run.Tally
counts t = record { taken = t.taken; rounds = t.rounds; stores = t.stores }

abbrev pub no_counts : Tally
no_counts = record { taken = 0; rounds = 0; stores = 0 }

abbrev pub state : ℕ → List ℕ → List ℕ → Tally → run.State
state n ws bs t = record { words = ws; waiting = bits n bs; tally = counts t }

-- ---- what a run asks, and what it keeps

pub record Marks (n : ℕ) (bs : List ℕ) : Type 0 where
  pub few : n ≤ capacity
  pub bits : length (waiting_of bs) ≡ capacity
  pub idle : Idle n bs

pub record Sized (n : ℕ) (ws bs : List ℕ) : Type 0 where
  pub words : length ws ≡ n
  pub waiting : Marks n bs

pub record Low (k : ℕ) (t : Tally) : Type 0 where
  pub taken : t.taken < 2 ^ k
  pub rounds : t.rounds < 2 ^ k
  pub stores : t.stores < 2 ^ k

pub record Ready (k : ℕ) (b : Bool) (n : ℕ) (fs hs xs ws bs : List ℕ) (t : Tally) : Type 0 where
  pub fit : FitIn b n fs hs xs
  pub sized : Sized n ws bs
  pub low : Low k t

pub record Ran (n : ℕ) (ws bs : List ℕ) (t r : Tally) (a b c : ℕ) : Type 0 where
  pub sized : Sized n ws bs
  pub taken : r.taken ≤ t.taken + a
  pub rounds : r.rounds ≤ t.rounds + b
  pub stores : r.stores ≤ t.stores + c

pub record Scheduled (n : ℕ) (vs : List ℕ) : Type 0 where
  pub few : length vs ≤ max_schedule
  pub inside : (i : ℕ) → i < length vs → get_or vs i 0 < n
