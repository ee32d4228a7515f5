-- A row as its function leaves it, and the opening's outcome. Assumes nothing.
use Rattle.property.proofs.Basics.{◌≡◌, sym, ◌∙◌, List, map, ℕ, suc, ◌/◌, ◌%◌, get_or}
use Rattle.property.specs.Property.{property, properties}
use Rattle.std.specs.Prelude.{Ok, Err}
use Rattle.graph.specs.declared.refusal.Refusal.{Refusal}
use Rattle.graph.specs.Refusal.{accept, over}
use Rattle.graph.specs.Edge.{Edge, reverse}
use Rattle.graph.specs.Code.{told, reply_of}
use Rattle.graph.proofs.Verdicts.{outcome_refused, outcome_accepted}
use Rattle.run.specs.Start.{values_from}
use Rattle.network.specs.Network.{Network, edges_in, faults, flat}
use Rattle.network.specs.Open.{open_row, open_rows, open_verdict, open_call}
use Rattle.open.specs.Code.{open_outcome}
use Rattle.calls.specs.Code.{network}
use Rattle.network.proofs.Never.{open_verdict_lem}

-- ---- a row

-- row r is the values of property number p from the landmark at place i
pub row_settled : (n r : ℕ) {p i : ℕ} (ls : List ℕ) (es : List Edge) {ws : List ℕ} → p ≡ suc (r % properties) → i ≡ r / properties
    → ws ≡ values_from (property p) es n (get_or ls i 0) → ws ≡ (open_row n ls es r).words
row_settled n r ls es ep ei h = h ∙ rw (ep, ei)

-- ---- the outcome: numbers 1 to 4 alone refuse, since nothing waits after n rounds

module _ (n : ℕ) (ls ts hs ws f b : List ℕ) (m : ℕ) where
  abbrev w : Network
  w = network ts hs ws f b m

  pub open_refused : (e : Refusal) → told (Err e) ≡ faults n ls w → open_outcome (Err e) ts hs ws f b ≡ open_call n ls w
  unfolding open_call reply_of told
  open_refused e h = sym (outcome_refused (open_verdict n ls w) _ _ _ (open_verdict_lem n ls w ∙ sym h))

  -- the rows of both sides are written over their lists
  pub open_written : faults n ls w ≡ accept → (f' b' : List ℕ) → f' ≡ over (flat (open_rows n ls (edges_in w))) f
      → b' ≡ over (flat (open_rows n ls (map reverse (edges_in w)))) b → open_outcome (Ok tt) ts hs ws f' b' ≡ open_call n ls w
  unfolding open_call reply_of
  open_written h f' b' ef eb = rw (ef, eb) (sym (outcome_accepted (open_verdict n ls w) _ _ _ (open_verdict_lem n ls w ∙ h)))
