-- The rounds of a batch start from words of 32 bits, whatever words the row held. Assumes nothing.
use Rattle.property.proofs.Basics.{cond, List, ℕ, ◌≤◌}
use Rattle.property.specs.Property.{M, Property}
use Rattle.property.specs.Laws.{Laws}
use Rattle.graph.specs.Edge.{Edge}
use Rattle.graph.proofs.Lists.{length_table, table_at}
use Rattle.run.specs.Run.{word}
use Rattle.theory.specs.Rest.{FitWords}
use Rattle.affected.specs.Affected.{marked, affected}
use Rattle.affected.specs.Prepared.{cleared, reopened, prepared}
use Rattle.theory.proofs.Fits.{cond_fits}

-- an affected vertex has no route, and any other its word
pub prepared_words : {P : Property} (L : Laws P) (es fs : List Edge) (s n : ℕ) (ws : List ℕ) → ((t : ℕ) → word P ws t ≤ M)
    → FitWords n (prepared P es fs s ws n)
unfolding prepared cleared reopened
prepared_words {P = P} L es fs s n ws h = record {
  words = length_table _ 0 n;
  waiting = length_table _ 0 n;
  fits = λ t k. rw (table_at (λ u. cond (marked (affected P es fs s ws n) u) P.none (word P ws u)) n t 0 k)
      (cond_fits (marked (affected P es fs s ws n) t) _ _ L.none_fits (h t));
}
