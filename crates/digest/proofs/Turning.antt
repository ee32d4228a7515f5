-- Turns of loops over the vertices: a count of those that pass a test, and a fold. Assumes nothing.
use Rattle.property.proofs.Basics.{◌≡◌, refl, sym, ap, ◌∙◌, Bool, true, false, cond, [], ◌∷◌, map, foldl, ℕ, ◌+◌, ◌<◌, ◌≤◌, add-zero, arith}
use mathlib.Core.List.{map-append, foldl-append}
use Rattle.frontier.specs.Waiting.{count_of}
use Rattle.frontier.proofs.Counts.{count_append}
use Rattle.graph.specs.Edge.{range}
use Rattle.calls.proofs.Flat.{range_suc}
use Rattle.answers.specs.Digest.{how_many}

-- of n vertices those below t are counted: k pass the test f
module _ (f : ℕ → Bool) (n : ℕ) where
  abbrev pub Counted : ℕ → ℕ → Type 0
  Counted t k = (k ≡ how_many f t) × (t ≤ n) × (k ≤ t)

  pub count_start : Counted 0 0
  unfolding range count_of
  count_start = (refl, omega arith, omega arith)

  count_more : (t : ℕ) (b : Bool) → f t ≡ b → how_many f (t + 1) ≡ how_many f t + count_of (b ∷ [])
  count_more t b e = rw (range_suc t, map-append f (range 0 t) (t ∷ []), e) (count_append (map f (range 0 t)) (b ∷ []))

  pub count_turn : (t k m : ℕ) → t < n → Counted t k → (b : Bool) → f t ≡ b → m ≡ cond b (k + 1) k → Counted (t + 1) m
  unfolding count_of
  count_turn t k m h c true e q = (q ∙ (ap (λ (i : ℕ). i + 1) c.0 ∙ sym (count_more t true e)), omega arith, omega arith)
  count_turn t k m h c false e q = (q ∙ (c.0 ∙ sym (count_more t false e ∙ add-zero (how_many f t))), omega arith, omega arith)

  pub count_end : (t k : ℕ) → n ≤ t → Counted t k → k ≡ how_many f n
  count_end t k h c = c.0 ∙ ap (how_many f) (omega arith)

pub fold_more : (f : ℕ → ℕ → ℕ) (n t k m : ℕ) → k ≡ foldl f n (range 0 t) → m ≡ f k t → m ≡ foldl f n (range 0 (t + 1))
fold_more f n t k m h e = e ∙ (ap (λ (u : ℕ). f u t) h ∙ sym (ap (foldl f n) (range_suc t) ∙ foldl-append f n (range 0 t) (t ∷ [])))
