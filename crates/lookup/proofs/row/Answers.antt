-- `lookup::row` meets its contract. Assumes nothing.
use Rattle.property.proofs.Basics.{arith, ◌≡◌, ap, ◌∙◌, true, false, ℕ, ◌+◌, ◌*◌, ◌≤◌, length, eq-eqb, ne_eqb}
use Rattle.network.specs.Query.{row_at}
use Rattle.network.specs.Lookup.{index_of}
use Rattle.lookup.proofs.Showing.{Shown, lookup_accept, row_refused, part_refused, row_shown}
use Rattle.lookup.proofs.row.Goals.{After-row_start-start}
use Rattle.lookup.proofs.row.Goals as goal

-- where the row lies: it starts at s, which is its place r, and its n words are within lists of f and of b words
record Lies (s r n f b : ℕ) : Type 0 where
  at : s ≡ r
  forward : s + n ≤ f
  backward : s + n ≤ b

-- where it lies once the look-up is judged
lies_of : (c : After-row_start-start) → let a = c.args in
    Lies c.row_start-start.result (row_at (index_of a.landmark a.landmarks.now) a.property * a.n) a.n (length a.forward.now) (length a.backward.now)
lies_of c =
    let a = c.args in
    let s = lookup_accept a.n a.landmarks.now a.forward.now a.backward.now a.side a.landmark a.property _ c.row_number-number.ensures c.in-Ok.is in
    let e = c.row_start-start.ensures ∙ ap (λ (i : ℕ). row_at i a.property * a.n) c.index_of.ensures in
    record { at = e; forward = omega (arith, e, s.forward); backward = omega (arith, e, s.backward) }

pub returns-in_default : goal.returns-in_default
returns-in_default c =
    let e = c.row_number-number.ensures in
    let q = c.in_default.is in record { words = row_refused _ _ _ _ _ _ _ _ e _ q; part = part_refused _ _ _ _ _ _ _ _ e _ q _ _ _ }

pub row_start-start-requires : goal.row_start-start-requires
row_start-start-requires c =
    let shown : let a = c.args in
    Shown a.n a.landmarks.now a.forward.now a.backward.now a.side a.landmark a.property = let a = c.args in
    lookup_accept a.n a.landmarks.now a.forward.now a.backward.now a.side a.landmark a.property _ c.row_number-number.ensures c.in-Ok.is in
    let s = shown in
    (s.first, s.last, s.few, omega (arith, s.listed, c.index_of.ensures))

pub overflow_add-end : goal.overflow_add-end
overflow_add-end c =
    let lies = lies_of (goal.at.overflow_add-end c).After-row_start-start in
    omega (arith, lies)

pub offset_bounds-forward-start : goal.offset_bounds-forward-start
offset_bounds-forward-start c =
    let lies = lies_of (goal.at.offset_bounds-forward-start c).After-row_start-start in
    omega (arith, lies)

pub slice_bounds-result-end-then-side-eq0 : goal.slice_bounds-result-end-then-side-eq0
slice_bounds-result-end-then-side-eq0 c =
    let lies = lies_of (goal.at.slice_bounds-result-end-then-side-eq0 c).After-row_start-start in
    lies.forward

pub returns-then-side-eq0 : goal.returns-then-side-eq0
returns-then-side-eq0 c =
    let lies = lies_of (goal.at.returns-then-side-eq0 c).After-row_start-start in
    let a = c.args in let both = row_shown a.n a.landmarks.now a.forward.now a.backward.now a.side a.landmark a.property _ c.row_number-number.ensures c.in-Ok.is
    c.row_start-start.result lies.at a.forward.ref_ptr a.backward.ref_ptr true (eq-eqb _ _ c.if-side-eq0.true) in record { words = both.0; part = both.1 }

pub offset_bounds-backward-start : goal.offset_bounds-backward-start
offset_bounds-backward-start c =
    let lies = lies_of (goal.at.offset_bounds-backward-start c).After-row_start-start in
    omega (arith, lies)

pub slice_bounds-result-end-2 : goal.slice_bounds-result-end-2
slice_bounds-result-end-2 c =
    let lies = lies_of (goal.at.slice_bounds-result-end-2 c).After-row_start-start in
    lies.backward

pub returns : goal.returns
returns c =
    let lies = lies_of (goal.at.returns c).After-row_start-start in
    let a = c.args in let both = row_shown a.n a.landmarks.now a.forward.now a.backward.now a.side a.landmark a.property _ c.row_number-number.ensures c.in-Ok.is
    c.row_start-start.result lies.at a.forward.ref_ptr a.backward.ref_ptr false (ne_eqb _ _ c.if-side-eq0.false) in record { words = both.0; part = both.1 }
