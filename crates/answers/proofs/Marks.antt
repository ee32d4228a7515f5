-- The marks of a route say which of its edges set the value: the test and the words of document 02 agree. Assumes nothing.
use Rattle.property.proofs.Basics.{◌≡◌, refl, inl, inr, ⊎_elim, true, false, true≢false, false≢true, List, [], ◌∷◌, ℕ, ◌≤◌, ◌<◌, arith, eqb-true, eqb-false, not-true, not-false}
use Rattle.property.specs.Property.{property, properties}
use Rattle.property.proofs.Tests.{by_test}
use Rattle.property.proofs.RouteLaws.{by_number}
use Rattle.graph.specs.Edge.{Edge}
use Rattle.answers.specs.Routing.{is_marked, marks_of, SetsValue, MarksFor, done, sets, passes}

module _ (p : ℕ) (least : 0 < p) (most : p ≤ properties) where
  marked_sets : (v : ℕ) (e : Edge) → is_marked p v e ≡ true → SetsValue p v e
  marked_sets v e = by_number (λ k. is_marked k v e ≡ true → SetsValue k v e)
      (λ h. inl (inl refl))
      (λ h. inl (inr refl))
      (λ h. inr (inl refl, eqb-false _ _ (not-true _ h)))
      (λ h. inr (inr refl, eqb-false _ _ (not-true _ h)))
      (λ h. absurd (false≢true h))
      p least most

  unmarked_passes : (v : ℕ) (e : Edge) → is_marked p v e ≡ false → SetsValue p v e → ⊥
  unmarked_passes v e = by_number (λ k. is_marked k v e ≡ false → SetsValue k v e → ⊥)
      (λ h z. true≢false h)
      (λ h z. true≢false h)
      (λ h. ⊎_elim (⊎_elim (λ a. omega arith) (λ a. omega arith)) (λ c. c.1 (eqb-true _ _ (not-false _ h))))
      (λ h. ⊎_elim (⊎_elim (λ a. omega arith) (λ a. omega arith)) (λ c. c.1 (eqb-true _ _ (not-false _ h))))
      (λ h. ⊎_elim (⊎_elim (λ a. omega arith) (λ a. omega arith)) (λ c. ⊎_elim (λ a. omega arith) (λ a. omega arith) c.0))
      p least most

  pub marks_for : (v : ℕ) (ps : List Edge) → MarksFor p v ps (marks_of p v ps)
  unfolding marks_of
  marks_for v [] = done
  marks_for v (e ∷ ps) = by_test (is_marked p v e)
      (λ z. rw z (sets (marked_sets v e z) (marks_for ((property p).along v e.weight) ps)))
      (λ z. rw z (passes (unmarked_passes v e z) (marks_for ((property p).along v e.weight) ps)))
