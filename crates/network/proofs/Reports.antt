-- What a batch reports as affected is how many vertices the closure names, and what it reports as stores is what its runs store, row by row.
-- Assumes nothing.
use Rattle.property.proofs.Basics.{◌≡◌, refl, sym, ◌∙◌, ◌↔◌, ◌⊎◌, inl, inr, ⊎_elim, Bool, true, false, ◌&&◌, ◌||◌, cond, false≢true, List, [], ◌∷◌, map, Memᴰ, ℕ, suc, ◌+◌, ◌<◌, add-zero, zero-add, arith, length, eqb, eqb-true, eq-eqb}
use Rattle.property.specs.Property.{Property}
use Rattle.property.proofs.Tests.{by_test}
use Rattle.frontier.specs.Waiting.{any_of, count_of}
use Rattle.graph.specs.Edge.{Edge, exists}
use Rattle.graph.proofs.Tests.{and_true, both, neither, or_right}
use Rattle.graph.proofs.Lists.{length_table, table_at}
use Rattle.graph.proofs.Edges.{true_exists, exists_true}
use Rattle.run.specs.Run.{word}
use Rattle.graph.proofs.Order.{Within}
use Rattle.theory.proofs.Rounds.{settle_all}
use Rattle.affected.specs.Net.{added}
use Rattle.affected.specs.Affected.{Affected, marked, affected}
use Rattle.affected.specs.Prepared.{cleared, reopened, prepared}
use Rattle.affected.proofs.Hunt.{affected_length, unaffected_unmarked, affected_exact}
use Rattle.network.specs.Network.{row, property_of, landmark_of, unsettled, stores_of}
use Rattle.network.specs.Batch.{affected_in, batch_row, affected_over}
use Rattle.network.specs.History as claim
use Rattle.network.specs.History.{Counted, TotalAffected, RowStart, TotalStores}

-- marks that are exactly those of A, from i on, are as many as A has
counted_marks : (A : ℕ → Type 0) (ms : List Bool) (i : ℕ) → ((t : ℕ) → (marked ms t ≡ true) ↔ A (i + t)) → Counted A i (length ms) (count_of ms)
unfolding count_of
counted_marks A [] i f = claim.none
counted_marks A (b ∷ ms) i f = first b (f 0) (counted_marks A ms (suc i) (λ t. let e : i + suc t ≡ suc i + t = omega arith in rw e at (f (suc t))))
  where
    first : (c : Bool) → (c ≡ true) ↔ A (i + 0) → Counted A (suc i) (length ms) (count_of ms) → Counted A i (suc (length ms)) (count_of (c ∷ ms))
    first true h k = claim.one (rw add-zero at (h.0 refl)) k
    first false h k = claim.other (λ a. false≢true (h.1 (rw add-zero a))) k

module _ (n : ℕ) (ls : List ℕ) (es fs : List Edge) (xs : List ℕ) (inside : Within n es) where
  row_counted : (r : ℕ) → Counted (Affected (property_of r) es fs (landmark_of ls r) (row n r xs)) 0 n (count_of (affected_in n ls es fs xs r))
  row_counted r =
      let A = Affected (property_of r) es fs (landmark_of ls r) (row n r xs) in
      let e = affected_length (property_of r) es fs (landmark_of ls r) (row n r xs) n in
      let f = affected_exact (property_of r) es fs (landmark_of ls r) (row n r xs) n inside.heads in
      rw e at (counted_marks A (affected_in n ls es fs xs r) 0 (λ t. rw zero-add (f t)))

  -- The marks of a row are the closure (`affected_exact`), and the call sums how many they are over the rows.
  pub rows_affected : (rs : List ℕ) → TotalAffected n ls es fs xs rs (affected_over n ls es fs xs rs)
  unfolding affected_over
  rows_affected [] = claim.none
  rows_affected (r ∷ rs) = claim.more (row_counted r) (rows_affected rs)

-- ---- stores

module _ (P : Property) (es fs : List Edge) (s : ℕ) (ws : List ℕ) (n : ℕ) (heads : (e : Edge) → Memᴰ e es → e.head < n) where
  abbrev marks : List Bool
  marks = affected P es fs s ws n

  -- the edges by which a vertex t waits
  abbrev Woken : ℕ → Type 0
  Woken t = (e : Edge) × Memᴰ e fs × (e.tail ≡ t) × (Affected P es fs s ws e.head ⊎ (added P es fs e ≡ true))

  -- the word of a vertex t as its run starts
  abbrev wiped : ℕ → ℕ
  wiped t = cond (marked marks t) P.none (word P ws t)

  abbrev wakes : ℕ → Edge → Bool
  wakes t e = eqb e.tail t && (marked marks e.head || added P es fs e)

  -- an edge of the test is one into an affected vertex, or an added one
  woken : (t : ℕ) → exists (wakes t) fs ≡ true → Woken t
  woken t h =
      let (e, m, q) = exists_true (wakes t) fs h in
      let z = both (eqb e.tail t) (marked marks e.head || added P es fs e) q in
      (e, m, eqb-true _ _ z.0, by_test (marked marks e.head) (λ p. inl ((affected_exact P es fs s ws n heads e.head).0 p)) (λ p. inr (rw p at z.1)))

  waking : (t : ℕ) → Woken t → exists (wakes t) fs ≡ true
  waking t (e, m, q, w) = true_exists (wakes t) m (and_true (eq-eqb e.tail t q)
      (⊎_elim (λ a. rw ((affected_exact P es fs s ws n heads e.head).1 a)) (λ d. or_right (marked marks e.head) d) w))

  -- The marks are the closure: so the prepared state is the one that document 01 names, word by word and bit by bit.
  prepared_start : RowStart P es fs s ws n (prepared P es fs s ws n)
  unfolding prepared cleared reopened
  prepared_start = record {
    words = length_table _ 0 n;
    waiting = length_table _ 0 n;
    cleared = λ t h a. table_at wiped n t P.none h ∙ rw ((affected_exact P es fs s ws n heads t).1 a);
    kept = λ t h d. table_at wiped n t P.none h ∙ rw (unaffected_unmarked P es fs s ws n t d);
    wakes = λ t h. let bit = table_at (λ k. exists (wakes k) fs) n t false h in (λ q. woken t (sym bit ∙ q), λ w. bit ∙ waking t w);
    untallied = refl;
  }

-- Nothing waits in any row at the end, so the rounds of each are all its rounds; and the call sums their stores.
pub rows_stores : (n : ℕ) (ls : List ℕ) (es fs : List Edge) (xs rs : List ℕ) → Within n es → unsettled (map (batch_row n ls es fs xs) rs) ≡ false
    → TotalStores n ls es fs xs rs (stores_of (map (batch_row n ls es fs xs) rs))
unfolding unsettled stores_of
rows_stores n ls es fs xs [] i h = claim.none
rows_stores n ls es fs xs (r ∷ rs) i h =
    let z = neither (any_of (batch_row n ls es fs xs r).waiting) (unsettled (map (batch_row n ls es fs xs) rs)) h in
    claim.more (prepared_start (property_of r) es fs (landmark_of ls r) (row n r xs) n i.heads) (settle_all (property_of r) fs n n _ z.0)
    (rows_stores n ls es fs xs rs i z.1)
