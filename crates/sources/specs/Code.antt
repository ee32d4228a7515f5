-- What the functions that read a source file hold and answer. Assumes nothing.
--
--   item_of x            == a Said as an item
--   item_said x          == likewise, where a line says one
--   Held s xs            == a list with room for every source, which holds those of the state s
--   state_of xs s        == a State as the definition's, with the sources that the list holds
--   step_of xs r         == likewise, where a good file can go on
--   read_of xs r         == what a file comes to: COUNT with those sources, or the line of the refusal
--   Keeps r xs           == where r goes on, the list holds what its state says
--   Whole r xs           == where the file is good, the list holds its sources; a refusal is of number 14
--   reading r            == the program's reply as document 01's
--   sources_outcome r xs == the program's reply r and the lent list at exit, as an outcome
--   Inside s             == after the p line, COUNT is in range and there are no more sources than that
use Rattle.std.specs.Prelude.{◌≡◌, List, ℕ, ◌≤◌, length, take, Option, Some, None, Result, Ok, Err}
use Rattle.std.proofs.Math.Option as math
use Rattle.graph.specs.declared.refusal.Refusal.{Refusal}
use Rattle.graph.specs.Refusal.{Reply, Outcome}
use Rattle.graph.specs.Code.{number, place, reply_of}
use Rattle.dimacs.specs.Read.{Read, good, bad}
use Rattle.dimacs.specs.Sources as src
use Rattle.sources.specs.declared.Said.{Said}
use Rattle.sources.specs.declared.Said.TheVariants as said
use Rattle.sources.specs.declared.State.{State}
use Rattle.sources.specs.declared.State.TheVariants as state

abbrev pub item_of : Said → src.Item
item_of (said.Header k) = src.header k
item_of (said.Source v) = src.source v

abbrev pub item_said : Option Said → math.Option src.Item
item_said (Some x) = math.some (item_of x)
item_said None = math.none

-- ---- the scratch list

abbrev pub Inside : State → Type 0
Inside state.Start = Unit {0}
Inside (state.Within k held) = (k ≤ src.max_sources) × (held ≤ k)

pub record Held (s : State) (xs : List ℕ) : Type 0 where
  pub room : src.max_sources ≤ length xs
  pub inside : Inside s

abbrev pub Keeps : Option State → List ℕ → Type 0
Keeps (Some s) xs = Held s xs
Keeps None xs = Unit {0}

abbrev pub Whole : Result ℕ Refusal → List ℕ → Type 0
Whole (Ok k) xs = (k ≤ src.max_sources) × (src.max_sources ≤ length xs)
Whole (Err e) xs = number e ≡ 14

-- ---- answers

module _ (xs : List ℕ) where
  unfoldable pub state_of : State → src.State
  state_of state.Start = src.start
  state_of (state.Within k held) = src.within k (take held xs)

  unfoldable pub step_of : Option State → math.Option src.State
  step_of (Some s) = math.some (state_of s)
  step_of None = math.none

  unfoldable pub read_of : Result ℕ Refusal → Read src.State
  read_of (Ok k) = good (src.within k (take k xs))
  read_of (Err e) = bad (place e)

-- ---- the call

abbrev pub reading : Result ℕ Refusal → Reply ℕ
reading r = reply_of (λ k. k) r

abbrev pub sources_outcome : Result ℕ Refusal → List ℕ → Outcome ℕ (List ℕ)
sources_outcome r xs = record { reply = reading r; memory = xs }
