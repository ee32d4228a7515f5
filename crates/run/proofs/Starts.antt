-- Where a run starts: nobody waits but the source, and every word is the same but its own. Assumes nothing.
use Rattle.property.proofs.Basics.{◌≡◌, ap, ◌∙◌, Bool, true, false, List, ℕ, ◌≤◌, ◌<◌, length, set, replicate, length-set, length-replicate}
use Rattle.property.specs.Property.{Property}
use Rattle.frontier.specs.Waiting.{waiting_of, capacity}
use Rattle.run.specs.Start.{opened}
use Rattle.run.specs.Code.{bits, no_counts, state, Marks, Sized}
use Rattle.run.proofs.States.{bits_set, bits_clear, marks_set, marks_clear}

-- ---- s alone waits, where nobody waited before

module _ (n s : ℕ) (bs cs : List ℕ) (h : s < n) (few : n ≤ capacity) (e : waiting_of bs ≡ replicate capacity false) (put : waiting_of cs ≡ set (waiting_of bs) s true) where
  pub started_bits : bits n cs ≡ set (replicate n false) s true
  started_bits = bits_set n s bs cs true h put ∙ ap (λ (l : List Bool). set l s true) (bits_clear n bs few e)

  pub started_marks : Marks n cs
  started_marks = marks_set n s bs cs true h put (marks_clear n bs few e)

-- ---- a row is opened

module _ (P : Property) (n s m a b : ℕ) (ws bs : List ℕ) (e : ws ≡ replicate m a) (size : m ≡ n) (none : a ≡ P.none) where
  pub opened_state : b ≡ P.start → bits n bs ≡ set (replicate n false) s true → state n (set ws s b) bs no_counts ≡ opened P n s
  unfolding opened
  opened_state p q = rw (e, size, none, p, q)

  pub opened_sized : Marks n bs → Sized n (set ws s b) bs
  opened_sized h = record { words = length-set ws s b ∙ ap length e ∙ length-replicate m a ∙ size; waiting = h }
