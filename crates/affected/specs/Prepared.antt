-- Where a row's rounds start after a batch: document 01, "Batch"; document 02, One and Five. Assumes nothing.
--
--   cleared P ms ws n       == the row's words, with no route for the affected vertices
--   reopened P es fs ms n   == who waits: the tails of all new edges into affected vertices, and of all added edges
--   prepared P es fs s ws n == the state in which the rounds of a row start
use Rattle.std.specs.Prelude.{Bool, ◌&&◌, ◌||◌, cond, List, map, ℕ, eqb}
use Rattle.property.specs.Property.{Property}
use Rattle.graph.specs.Edge.{Edge, exists, range}
use Rattle.run.specs.Run.{State, no_tally, word}
use Rattle.affected.specs.Net.{added}
use Rattle.affected.specs.Affected.{marked, affected}

unfoldable pub cleared : Property → List Bool → List ℕ → ℕ → List ℕ
cleared P ms ws n = map (λ t. cond (marked ms t) P.none (word P ws t)) (range 0 n)

unfoldable pub reopened : Property → List Edge → List Edge → List Bool → ℕ → List Bool
reopened P es fs ms n = map (λ t. exists (λ e. eqb e.tail t && (marked ms e.head || added P es fs e)) fs) (range 0 n)

unfoldable pub prepared : Property → List Edge → List Edge → ℕ → List ℕ → ℕ → State
prepared P es fs s ws n = record {
  words = cleared P (affected P es fs s ws n) ws n;
  waiting = reopened P es fs (affected P es fs s ws n) n;
  tally = no_tally;
}
