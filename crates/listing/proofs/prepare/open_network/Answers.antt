-- `listing::prepare::open_network` meets its contract: the landmarks of choice, and rows of zeros that the opening writes. Assumes nothing.
use Rattle.property.proofs.Basics.{arith, refl, sym, ap, ◌∙◌, List, ℕ, ◌*◌, ◌≤◌, length, take, length-take-le, length-replicate}
use Rattle.property.specs.Property.{properties}
use Rattle.graph.specs.Code.{columns}
use Rattle.graph.specs.Limits.{max_landmarks}
use Rattle.graph.proofs.Lists.{take_replicate}
use Rattle.calls.proofs.Rows.{rows_most}
use Rattle.listing.proofs.Opening.{few_held, picked, ready}
use Rattle.listing.proofs.prepare.open_network.Goals as goal

pub overflow_mul-k : goal.overflow_mul-k
overflow_mul-k c =
    let a = c.args in
    let few = few_held a.n (columns a.tails.now a.heads.now a.weights.now) a.count _ _ _ c.unwrap_or-choice.ensures refl (length-replicate {A = ℕ} max_landmarks 0) c.choose_landmarks.ensures in
    omega (arith, few.0)

pub overflow_mul-k-2 : goal.overflow_mul-k-2
overflow_mul-k-2 c =
    let a = c.args in
    let few = few_held a.n (columns a.tails.now a.heads.now a.weights.now) a.count _ _ _ c.unwrap_or-choice.ensures refl (length-replicate {A = ℕ} max_landmarks 0) c.choose_landmarks.ensures in
    let most = rows_most c.unwrap_or-choice.result.count a.n few.0 c.requires.0 in
    omega (arith, most)

pub slice_bounds-vertices-end : goal.slice_bounds-vertices-end
slice_bounds-vertices-end c =
    let a = c.args in
    let few = few_held a.n (columns a.tails.now a.heads.now a.weights.now) a.count _ _ _ c.unwrap_or-choice.ensures refl (length-replicate {A = ℕ} max_landmarks 0) c.choose_landmarks.ensures in
    omega (arith, few)

pub slice_bounds-open-end : goal.slice_bounds-open-end
slice_bounds-open-end c =
    let a = c.args in
    let few = few_held a.n (columns a.tails.now a.heads.now a.weights.now) a.count _ _ _ c.unwrap_or-choice.ensures refl (length-replicate {A = ℕ} max_landmarks 0) c.choose_landmarks.ensures in
    sym (length-take-le _ _ (omega (arith, few)))

pub slice_bounds-open-end-2 : goal.slice_bounds-open-end-2
slice_bounds-open-end-2 c =
    let a = c.args in
    let few = few_held a.n (columns a.tails.now a.heads.now a.weights.now) a.count _ _ _ c.unwrap_or-choice.ensures refl (length-replicate {A = ℕ} max_landmarks 0) c.choose_landmarks.ensures in
    let most = rows_most c.unwrap_or-choice.result.count a.n few.0 c.requires.0 in
    omega (arith, most, c.fill.auto.dst, c.requires.1.forward)

pub slice_bounds-open-end-3 : goal.slice_bounds-open-end-3
slice_bounds-open-end-3 c =
    let a = c.args in
    let few = few_held a.n (columns a.tails.now a.heads.now a.weights.now) a.count _ _ _ c.unwrap_or-choice.ensures refl (length-replicate {A = ℕ} max_landmarks 0) c.choose_landmarks.ensures in
    let most = rows_most c.unwrap_or-choice.result.count a.n few.0 c.requires.0 in
    sym (length-take-le _ _ (omega (arith, most, c.fill.auto.dst, c.requires.1.forward)))

pub slice_bounds-open-end-4 : goal.slice_bounds-open-end-4
slice_bounds-open-end-4 c =
    let a = c.args in
    let few = few_held a.n (columns a.tails.now a.heads.now a.weights.now) a.count _ _ _ c.unwrap_or-choice.ensures refl (length-replicate {A = ℕ} max_landmarks 0) c.choose_landmarks.ensures in
    let most = rows_most c.unwrap_or-choice.result.count a.n few.0 c.requires.0 in
    omega (arith, most, c.fill-2.auto.dst, c.requires.1.backward)

pub slice_bounds-open-end-5 : goal.slice_bounds-open-end-5
slice_bounds-open-end-5 c =
    let a = c.args in
    let few = few_held a.n (columns a.tails.now a.heads.now a.weights.now) a.count _ _ _ c.unwrap_or-choice.ensures refl (length-replicate {A = ℕ} max_landmarks 0) c.choose_landmarks.ensures in
    let most = rows_most c.unwrap_or-choice.result.count a.n few.0 c.requires.0 in
    sym (length-take-le _ _ (omega (arith, most, c.fill-2.auto.dst, c.requires.1.backward)))

pub returns : goal.returns
returns c =
    let a = c.args in
    let few = few_held a.n (columns a.tails.now a.heads.now a.weights.now) a.count _ _ _ c.unwrap_or-choice.ensures refl (length-replicate {A = ℕ} max_landmarks 0) c.choose_landmarks.ensures in
    let most = rows_most c.unwrap_or-choice.result.count a.n few.0 c.requires.0 in
    let cells : ℕ = c.unwrap_or-choice.result.count * properties * a.n in
    let ahead : cells ≤ length c.fill.new.dst = omega (arith, most, c.fill.auto.dst, c.requires.1.forward) in
    let back : cells ≤ length c.fill-2.new.dst = omega (arith, most, c.fill-2.auto.dst, c.requires.1.backward) in
    let zf = ap (λ (xs : List ℕ). take cells xs) c.fill.ensures ∙ take_replicate {A = ℕ} cells (length a.forward.now) 0 (omega (arith, most, c.requires.1.forward)) in
    let zb = ap (λ (xs : List ℕ). take cells xs) c.fill-2.ensures ∙ take_replicate {A = ℕ} cells (length a.backward.now) 0 (omega (arith, most, c.requires.1.backward)) in record {
      count_le_max_landmarks = few;
      ready = λ es h.
          ready a.n es a.tails.now a.heads.now a.weights.now a.count h c.unwrap_or-choice.result
          (rw c.unwrap_or-choice.ensures (picked a.n es a.tails.now a.heads.now a.weights.now a.count h _ c.choose_landmarks.result c.choose_landmarks.ensures))
          c.fill.new.dst c.fill-2.new.dst _ _ c.«open».result zf zb
          (c.«open».auto.forward ∙ length-take-le cells c.fill.new.dst ahead)
          (c.«open».auto.backward ∙ length-take-le cells c.fill-2.new.dst back)
          c.«open».ensures;
    }
