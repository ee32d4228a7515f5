-- The vertices of a landmark choice are landmarks: number 3 never comes for them. Assumes nothing.
use Rattle.property.proofs.Basics.{◌≡◌, refl, sym, ap, ◌∙◌, true, false, not, ◌||◌, List, [], ◌∷◌, ℕ, zero, suc, ◌+◌, ◌<◌, ◌≤◌, arith, length, take, length-take, ltb, eqb, eqb-false, not-true, lt-ltb, le-ltb, ne_eqb}
use Rattle.property.proofs.Tests.{by_test}
use Rattle.graph.specs.Limits.{max_landmarks}
use Rattle.graph.specs.Refusal.{accept}
use Rattle.graph.specs.Edge.{Edge, exists, range}
use Rattle.graph.specs.Sorted.{insert}
use Rattle.graph.proofs.Tests.{both, and_true, neither, or_false}
use Rattle.graph.proofs.Lists.{length_range}
use Rattle.graph.proofs.Sorted.{length_insert, exists_insert}
use Rattle.graph.proofs.Verdicts.{accept_if}
use Rattle.network.specs.Network.{is_in, are_landmarks, landmarks}
use Rattle.network.specs.Choice.{ahead, ranking, place, ranked, choice}

-- ---- what makes a list of landmarks longer by one

record Longer (n l : ℕ) (ls : List ℕ) : Type 0 where
  below : ltb l n ≡ true
  other : is_in l ls ≡ false
  rest : are_landmarks n ls ≡ true

longer : (n l : ℕ) (ls : List ℕ) → are_landmarks n (l ∷ ls) ≡ true → Longer n l ls
unfolding are_landmarks
longer n l ls h =
    let a = both (ltb l n) _ h in
    let b = both (not (is_in l ls)) (are_landmarks n ls) a.1 in
    record { below = a.0; other = not-true _ b.0; rest = b.1 }

of_longer : {n l : ℕ} {ls : List ℕ} → Longer n l ls → are_landmarks n (l ∷ ls) ≡ true
unfolding are_landmarks
of_longer h = and_true h.below (and_true (ap not h.other) h.rest)

-- ---- ranked vertices are the same ones

ranked_in : (es : List Edge) (a : ℕ) (vs : List ℕ) → is_in a (ranked es vs) ≡ is_in a vs
unfolding ranked exists
ranked_in es a [] = refl
ranked_in es a (v ∷ vs) = exists_insert (ranking es) (eqb a) v (ranked es vs) ∙ ap (λ b. eqb a v || b) (ranked_in es a vs)

ranked_length : (es : List Edge) (vs : List ℕ) → length (ranked es vs) ≡ length vs
unfolding ranked
ranked_length es [] = refl
ranked_length es (v ∷ vs) = length_insert (ranking es) v (ranked es vs) ∙ ap suc (ranked_length es vs)

-- ---- so they are landmarks where those are

place_landmarks : (n : ℕ) (es : List Edge) (v : ℕ) (us : List ℕ) → are_landmarks n (v ∷ us) ≡ true → are_landmarks n (place es v us) ≡ true
unfolding insert exists
place_landmarks n es v [] h = h
place_landmarks n es v (u ∷ us) h =
    let z = longer n v (u ∷ us) h in
    let y = longer n u us z.rest in
    let x = neither (eqb v u) (is_in v us) z.other in
    by_test (ahead es v u) (λ q. rw q h) (λ q. rw q (of_longer (record {
      below = y.below;
      other = exists_insert (ranking es) (eqb u) v us ∙ or_false (ne_eqb u v (λ e. eqb-false v u x.0 (sym e))) y.other;
      rest = place_landmarks n es v us (of_longer (record { below = z.below; other = x.1; rest = y.rest }));
    })))

ranked_landmarks : (n : ℕ) (es : List Edge) (vs : List ℕ) → are_landmarks n vs ≡ true → are_landmarks n (ranked es vs) ≡ true
unfolding ranked
ranked_landmarks n es [] h = h
ranked_landmarks n es (v ∷ vs) h =
    let z = longer n v vs h in
    place_landmarks n es v (ranked es vs) (of_longer (record { below = z.below; other = ranked_in es v vs ∙ z.other; rest = ranked_landmarks n es vs z.rest }))

-- ---- numbers in a row are different, and so are the first of different ones

range_other : (a i k : ℕ) → a < i → is_in a (range i k) ≡ false
unfolding exists range
range_other a i zero h = refl
range_other a i (suc k) h = or_false (ne_eqb a i (λ e. omega arith)) (range_other a (suc i) k (omega arith))

range_landmarks : (n i k : ℕ) → i + k ≤ n → are_landmarks n (range i k) ≡ true
unfolding are_landmarks range
range_landmarks n i zero h = refl
range_landmarks n i (suc k) h =
    of_longer (record { below = lt-ltb i n (omega arith); other = range_other i (suc i) k (omega arith); rest = range_landmarks n (suc i) k (omega arith) })

take_other : (a k : ℕ) (us : List ℕ) → is_in a us ≡ false → is_in a (take k us) ≡ false
unfolding exists
take_other a zero us h = refl
take_other a (suc k) [] h = refl
take_other a (suc k) (u ∷ us) h = let z = neither (eqb a u) (is_in a us) h in or_false z.0 (take_other a k us z.1)

take_landmarks : (n k : ℕ) (us : List ℕ) → are_landmarks n us ≡ true → are_landmarks n (take k us) ≡ true
unfolding are_landmarks
take_landmarks n zero us h = refl
take_landmarks n (suc k) [] h = refl
take_landmarks n (suc k) (u ∷ us) h =
    let z = longer n u us h in
    of_longer (record { below = z.below; other = take_other u k us z.other; rest = take_landmarks n k us z.rest })

choice_length : (n : ℕ) (es : List Edge) (k : ℕ) → 0 < n → 0 < k → (0 < length (choice n es k)) × (length (choice n es k) ≤ k)
choice_length n es k a b =
    let l : length (ranked es (range 0 n)) ≡ n = ranked_length es (range 0 n) ∙ length_range 0 n in
    let m = length-take k (ranked es (range 0 n)) in
    (omega arith, omega arith)

-- The numbers below n are different, and ranking them only changes their order: a vertex is put before or after another and none is lost or doubled.
-- The first k of different vertices are different, and as n and k are not 0 there is one. So none of the four grounds of number 3 applies.
pub choice_landmarks : (n k : ℕ) (es : List Edge) → 0 < n → 0 < k → k ≤ max_landmarks → landmarks n (choice n es k) ≡ accept
choice_landmarks n k es a b c =
    let l = choice_length n es k a b in
    let h = take_landmarks n k (ranked es (range 0 n)) (ranked_landmarks n es (range 0 n) (range_landmarks n 0 n (omega arith))) in
    accept_if 3 0 (or_false (ne_eqb (length (choice n es k)) 0 (λ e. omega arith)) (or_false (le-ltb max_landmarks (length (choice n es k)) (omega arith)) (ap not h)))
