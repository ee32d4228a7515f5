-- The program's reply to a landmark choice and document 01's, both written out; and the list of degrees that the program counts. Assumes nothing.
--
--   ChosenWords   == the vertices of a landmark choice, written out: how many, and four places of which the unused are 0
--   words_of c    == the program's choice, so written
--   choosing r    == the program's reply to a landmark choice, so written
--   chosen_of x   == document 01's reply x, so written
--   padded us     == the vertices us in the four places
--   Degrees es ds == the word of the list ds after word v is the degree of v, for every v: it is 0 past the list
use Rattle.std.specs.Prelude.{◌≡◌, List, ◌++◌, ℕ, ◌+◌, ◌-◌, length, get_or, replicate, Result}
use Rattle.graph.specs.Limits.{max_landmarks}
use Rattle.graph.specs.declared.refusal.Refusal.{Refusal}
use Rattle.graph.specs.Refusal.{Reply, accepted, refused}
use Rattle.graph.specs.Edge.{Edge}
use Rattle.graph.specs.Code.{reply_of}
use Rattle.choice.specs.declared.Choice.{Choice}
use Rattle.network.specs.Choice.{degree}

pub record ChosenWords : Type 0 where
  pub count : ℕ
  pub vertices : List ℕ

abbrev pub padded : List ℕ → List ℕ
padded us = us ++ replicate (max_landmarks - length us) 0

unfoldable pub chosen_of : Reply (List ℕ) → Reply ChosenWords
chosen_of (accepted us) = accepted (record { count = length us; vertices = padded us })
chosen_of (refused k i) = refused k i

abbrev pub words_of : Choice → ChosenWords
words_of c = record { count = c.count; vertices = c.vertices }

abbrev pub choosing : Result Choice Refusal → Reply ChosenWords
choosing r = reply_of words_of r

abbrev pub Degrees : List Edge → List ℕ → Type 0
Degrees es ds = (v : ℕ) → get_or ds (v + 1) 0 ≡ degree es v
