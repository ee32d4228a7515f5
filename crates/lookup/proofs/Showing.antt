-- Row look-up: where a landmark stands in the list, where its row lies, and what is shown. Assumes nothing.
use Rattle.property.proofs.Basics.{◌≡◌, sym, ap, ◌∙◌, Bool, true, not, cond, false≢true, List, [], ◌∷◌, ℕ, suc, ◌+◌, ◌*◌, ◌-◌, ◌<◌, ◌≤◌, add-zero, add-one, arith, length, get_or, take, drop, drop_of_length-le, drop-cons, eqb, ltb, leb, eq-eqb, ne_eqb, ltb-true, ltb-false, leb-true, not-false}
use Rattle.property.specs.Property.{is_property}
use Rattle.property.proofs.Tests.{by_test}
use Rattle.std.specs.Prelude.{Result, Ok, Err}
use Rattle.graph.specs.declared.refusal.Refusal.{Refusal}
use Rattle.graph.specs.Edge.{exists}
use Rattle.graph.specs.Limits.{max_vertices, max_landmarks}
use Rattle.graph.specs.Refusal.{Verdict, refuse_if, verdict_of, replied, choose}
use Rattle.graph.specs.Table.{size}
use Rattle.graph.specs.Code.{told}
use Rattle.graph.proofs.Tests.{both, neither}
use Rattle.graph.proofs.Verdicts.{not_accept, then_accept, if_accept, verdict_replied}
use Rattle.network.specs.Network.{Rows, is_in, landmarks, short_rows}
use Rattle.network.specs.Query.{row_at}
use Rattle.network.specs.Lookup.{index_of, lookup_verdict, lookup_row, lookup_number}
use Rattle.calls.specs.Code.{row_lists}
use Rattle.lookup.specs.Code.{word_at, Shows}
use Rattle.graph.proofs.Judging.{size_accept}
use Rattle.calls.proofs.Judging.{rows_accept, landmarks_accept}
use Rattle.calls.proofs.Rows.{row_within}

-- ---- where a landmark stands

module _ (v : ℕ) (vs : List ℕ) (i : ℕ) {x : ℕ} (h : i + index_of v (drop i vs) ≡ x) where
  pub index_found : i < length vs → v ≡ get_or vs i 0 → i ≡ x
  unfolding index_of
  index_found l e = sym (add-zero i) ∙ (rw (drop-cons vs i 0 l, eq-eqb v (get_or vs i 0) e) at h)

  pub index_more : i < length vs → (v ≡ get_or vs i 0 → ⊥) → i + 1 + index_of v (drop (i + 1) vs) ≡ x
  unfolding index_of
  index_more l e =
      let z : i + suc (index_of v (drop (suc i) vs)) ≡ x = rw (drop-cons vs i 0 l, ne_eqb v (get_or vs i 0) e) at h in
      let y : index_of v (drop (i + 1) vs) ≡ index_of v (drop (suc i) vs) = rw add-one in
      omega (arith, z, y)

  pub index_none : length vs ≤ i → i ≡ x
  unfolding index_of
  index_none l = sym (add-zero i) ∙ (rw (drop_of_length-le vs {i = i} l) at h)

pub index_below : (v : ℕ) (vs : List ℕ) → is_in v vs ≡ true → index_of v vs < length vs
unfolding exists index_of
index_below v [] h = absurd (false≢true h)
index_below v (x ∷ vs) h = by_test (eqb v x) (λ e. rw e (omega arith)) (λ e. let z = index_below v vs (rw e at h) in rw e (omega arith))

-- ---- the number

pub told_number : (n : ℕ) (ls : List ℕ) (xs : Rows) (side l p : ℕ) (r : Result (Unit {0}) Refusal) → replied (told r) tt ≡ lookup_number n ls xs side l p → told r ≡ lookup_verdict n ls xs side l p
unfolding lookup_number
told_number n ls xs side l p r e = sym (verdict_replied (told r) tt) ∙ (ap verdict_of e ∙ verdict_replied (lookup_verdict n ls xs side l p) tt)

module _ (n : ℕ) (ls f b : List ℕ) (side l p : ℕ) where
  pub number_told : (r : Result (Unit {0}) Refusal) → told r ≡ lookup_verdict n ls (row_lists f b) side l p → replied (told r) tt ≡ lookup_number n ls (row_lists f b) side l p
  unfolding lookup_number
  number_told r e = ap (λ (v : Verdict). replied v tt) e

  module _ (r : Result (Unit {0}) Refusal) (e : replied (told r) tt ≡ lookup_number n ls (row_lists f b) side l p) where
    pub row_refused : (d : Refusal) → r ≡ Err d → [] ≡ lookup_row n ls (row_lists f b) side l p
    unfolding lookup_row choose told
    row_refused d q = rw (sym (told_number n ls (row_lists f b) side l p r e) ∙ ap told q)

    -- a refused look-up shows no row
    pub part_refused : (d : Refusal) → r ≡ Err d → (x y z : ℕ × ℕ) → Shows n ls (row_lists f b) side l p x y z
    unfolding told
    part_refused d q x y z h = absurd (not_accept (sym (ap told q) ∙ (told_number n ls (row_lists f b) side l p r e ∙ h)))

    -- the part from s on of the list of its side, where s is the row's start; and where it lies, if the lists lie at x and y
    pub row_shown : r ≡ Ok tt → (s : ℕ) → s ≡ row_at (index_of l ls) p * n → (x y : ℕ × ℕ) (t : Bool) → eqb side 0 ≡ t
        → (take (s + n - s) (drop s (cond t f b)) ≡ lookup_row n ls (row_lists f b) side l p) × Shows n ls (row_lists f b) side l p x y (word_at (cond t x y) s)
    unfolding lookup_row choose told
    row_shown q s at x y t d =
        let z : s + n - s ≡ n = omega arith in
        (rw (z, at, ← d, sym (told_number n ls (row_lists f b) side l p r e) ∙ ap told q), λ _. rw (at, ← d))

  -- ---- what an accepted look-up tells

  pub record Shown : Type 0 where
    pub few : n ≤ max_vertices
    pub listed : index_of l ls < max_landmarks
    pub first : 0 < p
    pub last : p ≤ 5
    pub sides : side ≤ 1
    pub forward : row_at (index_of l ls) p * n + n ≤ length f
    pub backward : row_at (index_of l ls) p * n + n ≤ length b

  pub lookup_accept : (r : Result (Unit {0}) Refusal) → replied (told r) tt ≡ lookup_number n ls (row_lists f b) side l p → r ≡ Ok tt → Shown
  unfolding told
  lookup_accept r e q =
      let v = then_accept (size n) _ (sym (told_number n ls (row_lists f b) side l p r e) ∙ ap told q) in
      let s = then_accept (short_rows n ls (row_lists f b)) _ v.1 in
      let m = then_accept (landmarks n ls) _ s.1 in
      let i = then_accept (refuse_if (not (is_in l ls)) 3 0) _ m.1 in
      let y = neither (not (is_property p)) (ltb 1 side) (if_accept _ _ _ i.1) in
      let z = both (ltb 0 p) (leb p 5) (not-false _ y.0) in
      let a : 0 < p = ltb-true 0 p z.0 in
      let c : p ≤ 5 = leb-true p 5 z.1 in
      let x = rows_accept n ls f b s.0 in
      let j = index_below l ls (not-false _ (if_accept _ _ _ i.0)) in
      let h : length ls ≤ max_landmarks = (landmarks_accept n ls m.0).0 in
      record {
        few = (size_accept n v.0).1;
        listed = omega arith;
        first = a;
        last = c;
        sides = ltb-false 1 side y.1;
        forward = row_within n (index_of l ls) p (length ls) (length f) j a c x.0;
        backward = row_within n (index_of l ls) p (length ls) (length b) j a c x.1;
      }
