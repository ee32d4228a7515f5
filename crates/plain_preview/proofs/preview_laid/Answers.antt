-- `plain_preview::preview_laid` meets its contract. Assumes nothing.
use Rattle.property.proofs.Basics.{arith, ◌≡◌, ◌≤◌, refl, sym, ap, ◌∙◌, List, ◌++◌, ℕ, length, take, drop, replicate, take_at, length-take-le, length-append}
use Rattle.graph.specs.Limits.{max_vertices}
use Rattle.graph.proofs.Lists.{take_replicate}
use Rattle.graph.proofs.Judging.{passed_on, then_refused, fine_accept}
use Rattle.network.specs.Network.{Network}
use Rattle.network.specs.Query.{query_faults}
use Rattle.answers.specs.Preview.{inquiry}
use Rattle.calls.specs.Code.{network}
use Rattle.plain_preview.proofs.Previewing.{faults_first, few_vertices, judged_before, Passed, passes, passed_sound, passed_network, passed_later, preview_faulty, preview_refused, preview_shown}
use Rattle.plain_preview.proofs.preview_laid.Goals as goal

record Back (n : ℕ) (ws : List ℕ) : Type 0 where
  listed : n ≤ length (ws ++ drop {A = ℕ} n (replicate max_vertices 0))
  front : take n (ws ++ drop n (replicate max_vertices 0)) ≡ ws
  size : length (take n (ws ++ drop n (replicate max_vertices 0))) ≡ n

zeros_length : (n : ℕ) → n ≤ max_vertices → length (take {A = ℕ} n (replicate max_vertices 0)) ≡ n
zeros_length n h = length-take-le {A = ℕ} n (replicate max_vertices 0) h

back : (n : ℕ) (ws : List ℕ) → n ≤ max_vertices → length ws ≡ length (take {A = ℕ} n (replicate max_vertices 0)) → Back n ws
back n ws h u =
    let l = u ∙ zeros_length n h in
    let f = take_at ws (drop {A = ℕ} n (replicate max_vertices 0)) n l in
    let z = length-append ws (drop {A = ℕ} n (replicate max_vertices 0)) in
    record { listed = omega arith; front = f; size = ap length f ∙ l }

at_most : {a n k : ℕ} → a ≡ n → n ≤ k → a ≤ k
at_most e h = omega arith

-- ---- what it answers
pub returns-in_err-judge_preview : goal.returns-in_err-judge_preview
returns-in_err-judge_preview c cs l =
    let a = c.args in
    let net : Network = network a.tails.now a.heads.now a.weights.now a.forward.now a.backward.now a.count in
    rw (passed_on _ c.from_residual.ensures.1)
    (preview_faulty _ _ _ _ _ _ _ _ _ l.size
    (then_refused _ _ (query_faults a.n a.landmarks.now net (inquiry a.property a.source) _ _) c.in_err-judge_preview.ensures
    ∙ sym (faults_first a.n a.landmarks.now net a.property a.source a.size (length a.effects.now) (length a.moves.now))))

pub slice_bounds-before-end : goal.slice_bounds-before-end
slice_bounds-before-end c =
    let a = c.args in
    let net : Network = network a.tails.now a.heads.now a.weights.now a.forward.now a.backward.now a.count in
    let few : a.n ≤ max_vertices = few_vertices a.n a.landmarks.now net a.size a.property a.source a.effects.now a.moves.now c.in_ok-judge_preview.ensures in
    few

pub slice_bounds-ask-end : goal.slice_bounds-ask-end
slice_bounds-ask-end c =
    let a = c.args in
    let net : Network = network a.tails.now a.heads.now a.weights.now a.forward.now a.backward.now a.count in
    let few : a.n ≤ max_vertices = few_vertices a.n a.landmarks.now net a.size a.property a.source a.effects.now a.moves.now c.in_ok-judge_preview.ensures in
    sym (zeros_length a.n few)

pub ask-requires : goal.ask-requires
ask-requires c =
    let a = c.args in
    let net : Network = network a.tails.now a.heads.now a.weights.now a.forward.now a.backward.now a.count in
    let few : a.n ≤ max_vertices = few_vertices a.n a.landmarks.now net a.size a.property a.source a.effects.now a.moves.now c.in_ok-judge_preview.ensures in
    (few, take_replicate a.n max_vertices 0 few)

pub returns-in_err-ask : goal.returns-in_err-ask
returns-in_err-ask c cs l =
    let a = c.args in
    let net : Network = network a.tails.now a.heads.now a.weights.now a.forward.now a.backward.now a.count in
    rw (passed_on _ c.from_residual-in_err-ask.ensures.1)
    (preview_faulty _ _ _ _ _ _ _ _ _ l.size
    (judged_before a.n a.landmarks.now net a.size a.property a.source a.effects.now a.moves.now c.in_ok-judge_preview.ensures
    (λ i. omega (arith, c.type_inv.forward i)) (λ i. omega (arith, c.type_inv.backward i)) _ _ c.in_err-ask.ensures))

pub slice_bounds-after-end : goal.slice_bounds-after-end
slice_bounds-after-end c =
    let a = c.args in
    let net : Network = network a.tails.now a.heads.now a.weights.now a.forward.now a.backward.now a.count in
    let few : a.n ≤ max_vertices = few_vertices a.n a.landmarks.now net a.size a.property a.source a.effects.now a.moves.now c.in_ok-judge_preview.ensures in
    few

pub slice_bounds-ask_after-end : goal.slice_bounds-ask_after-end
slice_bounds-ask_after-end c =
    let a = c.args in
    let net : Network = network a.tails.now a.heads.now a.weights.now a.forward.now a.backward.now a.count in
    let few : a.n ≤ max_vertices = few_vertices a.n a.landmarks.now net a.size a.property a.source a.effects.now a.moves.now c.in_ok-judge_preview.ensures in
    sym (zeros_length a.n few)

pub ask_after-requires : goal.ask_after-requires
ask_after-requires c =
    let a = c.args in
    let net : Network = network a.tails.now a.heads.now a.weights.now a.forward.now a.backward.now a.count in
    let few : a.n ≤ max_vertices = few_vertices a.n a.landmarks.now net a.size a.property a.source a.effects.now a.moves.now c.in_ok-judge_preview.ensures in
    let passed : Passed a.n a.landmarks.now net a.size a.property a.source a.effects.now a.moves.now
    = passes a.n a.landmarks.now net a.size a.property a.source a.effects.now a.moves.now c.in_ok-judge_preview.ensures
    (λ i. omega (arith, c.type_inv.forward i)) (λ i. omega (arith, c.type_inv.backward i)) _ c.in_ok-ask.ensures in
    record { lists_len = (c.requires, take_replicate a.n max_vertices 0 few); count_value = passed_network passed }

pub returns-in_err-ask_after : goal.returns-in_err-ask_after
returns-in_err-ask_after c cs l =
    let a = c.args in
    let net : Network = network a.tails.now a.heads.now a.weights.now a.forward.now a.backward.now a.count in
    let passed : Passed a.n a.landmarks.now net a.size a.property a.source a.effects.now a.moves.now
    = passes a.n a.landmarks.now net a.size a.property a.source a.effects.now a.moves.now c.in_ok-judge_preview.ensures
    (λ i. omega (arith, c.type_inv.forward i)) (λ i. omega (arith, c.type_inv.backward i)) _ c.in_ok-ask.ensures in
    rw (passed_on _ c.from_residual-in_err-ask_after.ensures.1)
    (preview_refused _ _ _ _ _ _ _ _ _ ((c.in_err-ask_after.ensures cs l).verdict ∙ sym (passed_later passed cs l.size)))

pub slice_bounds-before-end-2 : goal.slice_bounds-before-end-2
slice_bounds-before-end-2 c =
    let a = c.args in
    let net : Network = network a.tails.now a.heads.now a.weights.now a.forward.now a.backward.now a.count in
    let few : a.n ≤ max_vertices = few_vertices a.n a.landmarks.now net a.size a.property a.source a.effects.now a.moves.now c.in_ok-judge_preview.ensures in
    (back a.n c.ask.new.settled few c.ask.auto.settled).listed

pub slice_bounds-show-end : goal.slice_bounds-show-end
slice_bounds-show-end c =
    let a = c.args in
    let net : Network = network a.tails.now a.heads.now a.weights.now a.forward.now a.backward.now a.count in
    let few : a.n ≤ max_vertices = few_vertices a.n a.landmarks.now net a.size a.property a.source a.effects.now a.moves.now c.in_ok-judge_preview.ensures in
    sym (back a.n c.ask.new.settled few c.ask.auto.settled).size

pub slice_bounds-after-end-2 : goal.slice_bounds-after-end-2
slice_bounds-after-end-2 c =
    let a = c.args in
    let net : Network = network a.tails.now a.heads.now a.weights.now a.forward.now a.backward.now a.count in
    let few : a.n ≤ max_vertices = few_vertices a.n a.landmarks.now net a.size a.property a.source a.effects.now a.moves.now c.in_ok-judge_preview.ensures in
    (back a.n c.ask_after.new.settled few c.ask_after.auto.settled).listed

pub slice_bounds-show-end-2 : goal.slice_bounds-show-end-2
slice_bounds-show-end-2 c =
    let a = c.args in
    let net : Network = network a.tails.now a.heads.now a.weights.now a.forward.now a.backward.now a.count in
    let few : a.n ≤ max_vertices = few_vertices a.n a.landmarks.now net a.size a.property a.source a.effects.now a.moves.now c.in_ok-judge_preview.ensures in
    sym (back a.n c.ask_after.new.settled few c.ask_after.auto.settled).size

pub show-requires : goal.show-requires
show-requires c =
    let a = c.args in
    let net : Network = network a.tails.now a.heads.now a.weights.now a.forward.now a.backward.now a.count in
    let few : a.n ≤ max_vertices = few_vertices a.n a.landmarks.now net a.size a.property a.source a.effects.now a.moves.now c.in_ok-judge_preview.ensures in
    let passed : Passed a.n a.landmarks.now net a.size a.property a.source a.effects.now a.moves.now
    = passes a.n a.landmarks.now net a.size a.property a.source a.effects.now a.moves.now c.in_ok-judge_preview.ensures
    (λ i. omega (arith, c.type_inv.forward i)) (λ i. omega (arith, c.type_inv.backward i)) _ c.in_ok-ask.ensures in
    let x = (back a.n c.ask.new.settled few c.ask.auto.settled).size in
    let y = (back a.n c.ask_after.new.settled few c.ask_after.auto.settled).size in
    let s = passed_sound passed in
    (at_most (x ∙ sym y) (omega arith), at_most x s.starts, at_most x s.settled)

pub returns : goal.returns
returns c cs l =
    let a = c.args in
    let net : Network = network a.tails.now a.heads.now a.weights.now a.forward.now a.backward.now a.count in
    let few : a.n ≤ max_vertices = few_vertices a.n a.landmarks.now net a.size a.property a.source a.effects.now a.moves.now c.in_ok-judge_preview.ensures in
    let passed : Passed a.n a.landmarks.now net a.size a.property a.source a.effects.now a.moves.now
    = passes a.n a.landmarks.now net a.size a.property a.source a.effects.now a.moves.now c.in_ok-judge_preview.ensures
    (λ i. omega (arith, c.type_inv.forward i)) (λ i. omega (arith, c.type_inv.backward i)) _ c.in_ok-ask.ensures in
    let x = back a.n c.ask.new.settled few c.ask.auto.settled in
    let y = back a.n c.ask_after.new.settled few c.ask_after.auto.settled in
    let z = c.in_ok-ask_after.ensures cs l in
    preview_shown _ _ _ _ _ _ _ _ _ _ x.size y.size (x.front ∙ c.in_ok-ask.ensures.words refl) (y.front ∙ z.words refl)
    (passed_later passed cs l.size ∙ fine_accept _ z.verdict) c.show.ensures
