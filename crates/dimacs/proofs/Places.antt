-- The place of a refusal, for any notion of a good text. Assumes nothing.
use Rattle.property.proofs.Basics.{◌≡◌, List, ◌++◌, append_assoc, ℕ, ◌-◌, ◌≤◌, arith, ltb, ltb-true, ltb-false, take, drop}
use Rattle.property.proofs.Tests.{by_test}
use Rattle.dimacs.proofs.Split.{joined_take}
use Rattle.dimacs.specs.Lines.{joined, split, Begins, Place}

-- two notions that agree on every text have the same places
pub place_agrees : {F G : List ℕ → Type 0} → ((text : List ℕ) → F text → G text) → ((text : List ℕ) → G text → F text) → (text : List ℕ) (k : ℕ) → Place F text k → Place G text k
place_agrees f g text k p = record {
  from_one = p.from_one;
  inside = p.inside;
  alive = (p.alive.0, f (joined (take (k - 1) (split text).lines) ++ p.alive.0) p.alive.1);
  dead = λ l b. p.dead l (b.0, g (joined (take k (split text).lines) ++ b.0) b.1);
  not_good = λ z. p.not_good (g text z);
}

-- where more lines begin a good text, fewer do
begins_fewer : (F : List ℕ → Type 0) (text : List ℕ) (i j : ℕ) → i ≤ j → Begins F (joined (take j (split text).lines)) → Begins F (joined (take i (split text).lines))
begins_fewer F text i j h (more, g) = (
  joined (take (j - i) (drop i (split text).lines)) ++ more,
  rw (joined_take i j (split text).lines h, append_assoc) at g,
)

-- of two notions, one of which holds where the other does, the wider one has the later place: up to the line before it some good text goes on
pub place_later : {F G : List ℕ → Type 0} → ((text : List ℕ) → F text → G text) → (text : List ℕ) (j k : ℕ) → Place F text j → Place G text k → j ≤ k
place_later {F = F} f text j k p q = by_test (ltb k j)
    (λ e.
    let l = ltb-true k j e in
    let (more, g) = begins_fewer F text k (j - 1) (omega arith) p.alive in
    absurd (q.dead (omega (arith, p.inside)) (more, f (joined (take k (split text).lines) ++ more) g)))
    (ltb-false k j)

-- a text has one place at most: before it some good text goes on, and with it none does
pub place_one : (Good : List ℕ → Type 0) (text : List ℕ) (j k : ℕ) → Place Good text j → Place Good text k → j ≡ k
place_one Good text j k p q = omega (arith, place_later (λ t z. z) text j k p q, place_later (λ t z. z) text k j q p)
