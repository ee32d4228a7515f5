-- One row of a batch as its functions leave it. Assumes nothing.
use Rattle.property.proofs.Basics.{◌≡◌, ap, ◌∙◌, List, ℕ, suc, ◌/◌, ◌%◌, get_or}
use Rattle.property.specs.Property.{property, properties}
use Rattle.frontier.specs.Waiting.{count_of}
use Rattle.graph.specs.Edge.{Edge}
use Rattle.run.specs.declared.Tally.{Tally}
use Rattle.run.specs.Run.{State, settle, no_tally}
use Rattle.run.specs.Code.{bits, no_counts, state}
use Rattle.affected.specs.Affected.{affected}
use Rattle.affected.specs.Prepared.{prepared}
use Rattle.rows.specs.declared.Rowed.{Rowed}
use Rattle.network.specs.Batch.{row_affected, row_end}
use Rattle.rows.specs.Code.{RowDone}

-- row r is prepared, and then settled
module _ (n r : ℕ) {p i : ℕ} (ls : List ℕ) (es fs : List Edge) (vs ws bs ws' bs' : List ℕ) (t : Tally) (ep : p ≡ suc (r % properties)) (ei : i ≡ r / properties)
    (start : ◌≡◌ {A = State} (record { words = ws; waiting = bits n bs; tally = no_tally }) (prepared (property p) es fs (get_or ls i 0) vs n))
    (run : state n ws' bs' t ≡ settle (property p) fs n n (state n ws bs no_counts)) where
  row_run : state n ws' bs' t ≡ row_end n ls es fs vs r
  row_run = run ∙ rw (start, ep, ei)

  pub row_done : (a : Rowed) → a.affected ≡ count_of (affected (property p) es fs (get_or ls i 0) vs n) → a.stores ≡ t.stores
      → RowDone n ls es fs vs r ws' a
  row_done a c s = record {
    words = ap (λ st. st.words) row_run;
    affected = c ∙ counted;
    stores = s ∙ ap (λ st. st.tally.stores) row_run;
  }
    where
      counted : count_of (affected (property p) es fs (get_or ls i 0) vs n) ≡ count_of (row_affected n ls es fs vs r)
      counted = rw (ep, ei)
