-- Where a row's rounds start: words of marked vertices that are cleared one after the other, and bits that are set. Assumes nothing.
--
--   Reopening .. out cs i == the marked vertices below i have no route in out, where the others keep their words, and the tails of the edges into
--                            them were set, which made cs
--   opens es ms t e       == e, an edge of the new list, has vertex t wait
use Rattle.property.proofs.Basics.{◌≡◌, refl, sym, ap, ◌∙◌, ◌⊎◌, inl, inr, ⊎_elim, Bool, true, false, ◌&&◌, ◌||◌, cond, true≢false, false≢true, List, map, ℕ, ◌+◌, ◌≤◌, ◌<◌, ℕ_discrete, dec_lt, arith, length, get_or, set, replicate, length-set, get_or-set_same, get_or-set_other, ext_get_or, eqb, eqb-true, eq-eqb}
use Rattle.property.specs.Property.{Property}
use Rattle.property.specs.Laws.{Laws}
use Rattle.property.proofs.Tests.{by_test}
use Rattle.frontier.specs.Waiting.{waiting_of, capacity}
use Rattle.frontier.proofs.Laws.{First}
use Rattle.graph.specs.Arc.{arc_head}
use Rattle.graph.specs.Edge.{Edge, reverse, exists, range}
use Rattle.graph.proofs.Arcs.{own_reads, own_whole}
use Rattle.graph.proofs.Edges.{exists_true, true_exists, mem_reverse, reverse_mem}
use Rattle.graph.proofs.Tests.{both, and_true, or_right, same_test}
use Rattle.graph.proofs.Lists.{length_table, table_at, get_or_within}
use Rattle.run.specs.Run.{no_tally, word}
use Rattle.run.specs.Code.{bits, Marks}
use Rattle.run.proofs.States.{bits_at, marks_within}
use Rattle.affected.specs.Net.{added}
use Rattle.affected.specs.Affected.{marked, affected}
use Rattle.affected.specs.Prepared.{cleared, reopened, prepared}
use Rattle.affected.proofs.Closure.{raise_keeps, raise_only}
use Rattle.compare.specs.Code.{after, changes_in}
use Rattle.hunt.proofs.Bits.{bits_all, bits_length, marks_if}
use Rattle.prepare.specs.Code.{Batched, Raised, Reached, Woken, Entering}
use Rattle.prepare.proofs.Marking.{listed_lost, lost_listed, unmarked}

-- ---- bits that are set

pub raised_none : (bs : List Bool) (Q : ℕ → Type 0) → ((t : ℕ) → Q t → ⊥) → Raised bs bs Q
raised_none bs Q f = record { kept = λ t h. h; only = λ t h. inl h; all = λ t q. absurd (f t q) }

-- one bit more, that of f k where k passes the test
pub raised_turn : {n : ℕ} {bs : List Bool} {cs : List ℕ} {f : ℕ → ℕ} {on : ℕ → Bool} {j k : ℕ} → Raised bs (waiting_of cs) (Reached f on j k) × Marks n cs → f k < n → j ≤ k
    → (ds : List ℕ) → waiting_of ds ≡ cond (on k) (set (waiting_of cs) (f k) true) (waiting_of cs) → Raised bs (waiting_of ds) (Reached f on j (k + 1)) × Marks n ds
raised_turn {n} {bs} {cs} {f} {on} {j} {k} (a, m) i h ds e =
    let l : f k < length (waiting_of cs) = omega (arith, m.few, m.bits) in
    let r : Raised bs (waiting_of ds) (Reached f on j (k + 1)) = record {
      kept = λ t q. rw e (raise_keeps (waiting_of cs) (f k) (on k) l t (a.kept t q));
      only = λ t q. ⊎_elim (λ y. ⊎_elim inl (λ z. inr (z.0, z.1, (let w = z.2 in omega arith), z.3, z.4)) (a.only t y)) (λ y. inr (k, h, omega arith, y.0, sym y.1))
          (raise_only (waiting_of cs) (f k) (on k) t (rw e at q));
      all = λ t q. rw e (elim (ℕ_discrete q.0 k) [
        | yes p ↦ rw (sym q.4, p, rw p at q.3) (get_or-set_same (waiting_of cs) (f k) true false l)
        | no d ↦ raise_keeps (waiting_of cs) (f k) (on k) l t (a.all t (q.0, q.1, (let z = q.2 in omega arith), q.3, q.4))
      ]);
    } in
    (r, marks_if n cs ds (f k) (on k) i e m)

-- at the end of a loop
pub raised_as : {n : ℕ} {bs : List Bool} {cs : List ℕ} {f : ℕ → ℕ} {on : ℕ → Bool} {j k i : ℕ} → Raised bs (waiting_of cs) (Reached f on j k) × Marks n cs → k ≡ i
    → Raised bs (waiting_of cs) (Reached f on j i) × Marks n cs
raised_as a e = rw e at a

-- ---- the marked vertices, one after the other

pub record Reopening (P : Property) (n : ℕ) (is ms ws bs out cs : List ℕ) (i : ℕ) : Type 0 where
  pub size : length out ≡ n
  pub gone : (k : ℕ) → k < i → marked (waiting_of ms) k ≡ true → get_or out k 0 ≡ P.none
  pub kept : (k : ℕ) → (k < i → marked (waiting_of ms) k ≡ true → ⊥) → get_or out k 0 ≡ get_or ws k 0
  pub raised : Raised (waiting_of bs) (waiting_of cs) (λ t. (v : ℕ) × (v < i) × (marked (waiting_of ms) v ≡ true) × Entering is (get_or is v 0) (get_or is (v + 1) 0) t)
  pub waiting : Marks n cs

module _ {P : Property} {n : ℕ} {is ms ws bs : List ℕ} (l : length ws ≡ n) where
  pub reopen_start : Marks n bs → Reopening P n is ms ws bs ws bs 0
  reopen_start m = record { size = l; gone = λ k a. absurd (omega arith); kept = λ k f. refl; raised = raised_none _ _ (λ t q. let a = q.1 in omega arith); waiting = m }

  module _ {out cs : List ℕ} {i : ℕ} (at : Reopening P n is ms ws bs out cs i) where
    -- v is the next that is marked
    pub reopen_turn : {v r : ℕ} → v < n → First (waiting_of ms) i v → r ≡ P.none → (ds : List ℕ) → Raised (waiting_of cs) (waiting_of ds) (Entering is (get_or is v 0) (get_or is (v + 1) 0))
        → Marks n ds → Reopening P n is ms ws bs (set out v r) ds (v + 1)
    reopen_turn {v} {r} h f e ds b m = record {
      size = length-set out v r ∙ at.size;
      gone = λ k a on. ⊎_elim (λ q. rw q (get_or-set_same out v r 0 (omega (arith, at.size)) ∙ e))
          (λ q. get_or-set_other out v k r 0 (λ z. let y = f.from in omega arith) ∙ at.gone k q on) (step k a on);
      kept = λ k g. get_or-set_other out v k r 0 (λ q. g (omega arith) (rw q f.waits)) ∙ at.kept k (λ a. g (let y = f.from in omega arith));
      raised = record {
        kept = λ t q. b.kept t (at.raised.kept t q);
        only = λ t q. ⊎_elim (λ p. ⊎_elim inl (λ o. inr (o.0, (let a = o.1 in let y = f.from in omega arith), o.2, o.3)) (at.raised.only t p)) (λ o. inr (v, omega arith, f.waits, o)) (b.only t q);
        all = λ t q. ⊎_elim (λ p. b.all t (rw p at q.3)) (λ p. b.kept t (at.raised.all t (q.0, p, q.2, q.3))) (step q.0 q.1 q.2);
      };
      waiting = m;
    }
      where
        step : (k : ℕ) → k < v + 1 → marked (waiting_of ms) k ≡ true → (k ≡ v) ⊎ (k < i)
        step k a on = elim (ℕ_discrete k v) [
          | yes q ↦ inl q
          | no d ↦ elim (dec_lt k i) [ yes q ↦ inr q | no o ↦ absurd (false≢true (sym (f.before k (omega arith) (omega arith)) ∙ on)) ]
        ]

    -- none from i on is marked
    pub reopen_over : ((k : ℕ) → i ≤ k → marked (waiting_of ms) k ≡ false) → (out ≡ cleared P (bits n ms) ws n)
        × (Raised (waiting_of bs) (waiting_of cs) (λ t. (v : ℕ) × (marked (waiting_of ms) v ≡ true) × Entering is (get_or is v 0) (get_or is (v + 1) 0) t) × Marks n cs)
    unfolding cleared
    reopen_over f =
        let given : ℕ → ℕ = λ t. cond (marked (bits n ms) t) P.none (word P ws t) in
        let below : (k : ℕ) → marked (waiting_of ms) k ≡ true → k < i = λ k on. elim (dec_lt k i) [ yes h ↦ h | no d ↦ absurd (false≢true (sym (f k (omega arith)) ∙ on)) ] in (
          ext_get_or 0 out (map given (range 0 n)) (at.size ∙ sym (length_table given 0 n))
              (λ k o. let h : k < n = omega (arith, at.size) in by_test (marked (waiting_of ms) k)
              (λ on. at.gone k (below k on) on ∙ ap (λ b. cond b P.none (word P ws k)) (sym (bits_at n ms k h ∙ on)))
              (λ off. at.kept k (λ a on. true≢false (sym on ∙ off)) ∙ get_or_within ws k 0 P.none (omega arith) ∙ ap (λ b. cond b P.none (word P ws k)) (sym (bits_at n ms k h ∙ off)))
              ∙ sym (table_at given n k 0 h)),
          (record { kept = at.raised.kept; only = λ t h. ⊎_elim inl (λ q. inr (q.0, q.2, q.3)) (at.raised.only t h); all = λ t q. at.raised.all t (q.0, below q.0 q.1, q.1, q.2) }, at.waiting),
        )

-- ---- who waits, and the whole start

abbrev pub opens : Property → List Edge → List Edge → List Bool → ℕ → Edge → Bool
opens P es fs ms t e = eqb e.tail t && (marked ms e.head || added P es fs e)

-- The added edges' tails are set first, then those of the edges into marked vertices. A bit that is set is of such an edge of the new
-- list; and each such edge is listed, or stands in the index at its head.
module _ {P : Property} (L : Laws P) {n : ℕ} {es fs : List Edge} {js is xs : List ℕ} (d : Batched n es fs js is xs) {ms ds : List ℕ} (bs cs : List ℕ) (marks : Marks n ms)
    (p : waiting_of bs ≡ replicate capacity false) (a : Raised (waiting_of bs) (waiting_of cs) (Woken P xs (changes_in xs)))
    (b : Raised (waiting_of cs) (waiting_of ds) (λ t. (v : ℕ) × (marked (waiting_of ms) v ≡ true) × Entering is (get_or is v 0) (get_or is (v + 1) 0) t)) (fine : Marks n ds) where
  sound : (t : ℕ) → marked (waiting_of ds) t ≡ true → exists (opens P es fs (bits n ms) t) fs ≡ true
  sound t h =
      ⊎_elim (λ y. ⊎_elim (λ z. absurd (unmarked p t z))
      (λ z. let w = listed_lost L d.net.new z.0 z.2 z.3 in
      true_exists (opens P es fs (bits n ms) t) w.0 (and_true (eq-eqb (after xs z.0).tail t z.4) (or_right (marked (bits n ms) _) w.1))) (a.only t y))
      (λ (v, on, (k, lo, hi, _, e)). let w = reverse_mem fs _ (own_reads n is (map reverse fs) d.new v k (marks_within n ms v marks on) lo hi) in
      true_exists (opens P es fs (bits n ms) t) w (and_true (eq-eqb (arc_head (get_or is k 0)) t e) (rw (bits_all n ms marks v ∙ on)))) (b.only t h)

  whole : (t : ℕ) → exists (opens P es fs (bits n ms) t) fs ≡ true → marked (waiting_of ds) t ≡ true
  whole t h =
      let z = exists_true (opens P es fs (bits n ms) t) fs h in
      let y = both (eqb z.0.tail t) _ z.2 in
      let j = eqb-true _ _ y.0 in
      by_test (marked (bits n ms) z.0.head)
      (λ on. let w = own_whole n is (map reverse fs) d.new z.0.head (reverse z.0) (d.into z.0 z.1) refl (mem_reverse z.1) in
      b.all t (z.0.head, sym (bits_all n ms marks z.0.head) ∙ on, (w.0, w.1, w.2, refl, ap (λ (x : Edge). x.head) w.3 ∙ j)))
      (λ on. let w = lost_listed L d.net.new z.0 z.1 (rw on at y.1) in b.kept t (a.all t (w.0, omega arith, w.1, w.3, ap (λ (l : Edge). l.tail) w.2 ∙ j)))

  pub prepared_made : (s : ℕ) (vs : List ℕ) {out : List ℕ} → bits n ms ≡ affected P es fs s vs n → out ≡ cleared P (bits n ms) vs n
      → record { words = out; waiting = bits n ds; tally = no_tally } ≡ prepared P es fs s vs n
  unfolding prepared reopened
  prepared_made s vs e c =
      let f : ℕ → Bool = λ t. exists (opens P es fs (bits n ms) t) fs in
      let q : bits n ds ≡ reopened P es fs (bits n ms) n =
      ext_get_or false (bits n ds) (map f (range 0 n)) (bits_length n ds fine ∙ sym (length_table f 0 n))
      (λ t h. let l : t < n = omega (arith, bits_length n ds fine) in bits_all n ds fine t ∙ same_test (marked (waiting_of ds) t) (f t) (sound t, whole t) ∙ sym (table_at f n t false l)) in
      λ i. record { words = (c ∙ ap (λ x. cleared P x vs n) e) i; waiting = (q ∙ ap (λ x. reopened P es fs x n) e) i; tally = no_tally }
