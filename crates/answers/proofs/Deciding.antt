-- The last edge that set headroom or worst stretch has the route's value for its weight, and there is one: the claim, proved. Assumes nothing.
use Rattle.property.proofs.Basics.{◌≡◌, refl, ap, ◌∙◌, ◌⊎◌, inl, inr, ⊎_elim, ◌≢◌, true, List, ℕ, ◌≤◌, ◌<◌, ℕ_discrete, arith, length, eqb}
use Rattle.property.specs.Property.{Property, property, sswp, ssnp}
use Rattle.property.proofs.Tests.{tests}
use Rattle.graph.specs.Limits.{max_weight}
use Rattle.graph.specs.Edge.{Edge, exists}
use Rattle.graph.specs.Leads.{Leads, stop, on, value_along}
use Rattle.graph.proofs.Order.{Sound, sound_fit, rules_accept}
use Rattle.answers.specs.Routing.{SetsValue, MarksFor, done, sets, passes}
use Rattle.answers.specs.Deciding.{decided, MarksDecide}

-- ---- headroom and worst stretch

-- what holds of the two holds by number
by_kind : (Q : Property → Type 0) → Q sswp → Q ssnp → (p : ℕ) → (p ≡ 3) ⊎ (p ≡ 4) → Q (property p)
unfolding property
by_kind Q a b p (inl z) = rw z a
by_kind Q a b p (inr z) = rw z b

-- a lesser or a greater of two that is not the first is the second
abbrev Moves : Property → Type 0
Moves P = (v w : ℕ) → P.along v w ≢ v → P.along v w ≡ w

-- a weight is neither of the values at the source, M and 0
abbrev Begins : Property → Type 0
Begins P = (w : ℕ) → 0 < w → w ≤ max_weight → P.along P.start w ≢ P.start

-- ---- marks

module _ (p : ℕ) (kind : (p ≡ 3) ⊎ (p ≡ 4)) where
  -- the running value after an edge that set it is that edge's weight ..
  sets_weight : (v : ℕ) (e : Edge) → SetsValue p v e → (property p).along v e.weight ≡ e.weight
  sets_weight v e z = ⊎_elim (λ a. absurd (⊎_elim (never a 3 (omega arith)) (never a 4 (omega arith)) kind)) (λ a. by_kind Moves (omega tests) (omega tests) p kind v e.weight a.1) z
    where
      never : (p ≡ 1) ⊎ (p ≡ 2) → (k : ℕ) → 2 < k → p ≡ k → ⊥
      never a k h b = ⊎_elim (λ c. omega arith) (λ c. omega arith) a

  -- .. and after one that passed it on it is what it was
  passes_same : (v : ℕ) (e : Edge) → (SetsValue p v e → ⊥) → (property p).along v e.weight ≡ v
  passes_same v e d = elim (ℕ_discrete ((property p).along v e.weight) v) [ yes z ↦ z | no k ↦ absurd (d (inr (kind, k))) ]

  decides : (v : ℕ) (ps : List Edge) (ms : List ℕ) → MarksFor p v ps ms → value_along (property p) v ps ≡ decided v ps ms
  unfolding value_along decided
  decides v ps ms done = refl
  decides v ps ms (sets {e = e} {ps = qs} {ms = ns} z k) = decides _ qs ns k ∙ ap (λ x. decided x qs ns) (sets_weight v e z)
  decides v ps ms (passes {e = e} {ps = qs} {ms = ns} z k) = decides _ qs ns k ∙ ap (λ x. decided x qs ns) (passes_same v e z)

  -- the first edge of a route sets the value, whatever its weight
  some_marked : (n : ℕ) (es : List Edge) → Sound n es → (s t : ℕ) (ps : List Edge) (ms : List ℕ) → Leads es s ps t → MarksFor p (property p).start ps ms
      → 0 < length ps → exists (eqb 1) ms ≡ true
  unfolding exists
  some_marked n es h s t ps ms stop k l = absurd (omega arith)
  some_marked n es h s t ps ms (on m r) (sets z k) l = refl
  some_marked n es h s t ps ms (on {e = e} m r) (passes d k) l =
      let f = sound_fit n es h e m in
      absurd (d (inr (kind, by_kind Begins (omega tests) (omega tests) p kind e.weight f.some_weight f.weight_most)))

-- The running value goes from edge to edge. An edge that sets it leaves its own weight, since the lesser or greater of two that is not the first is
-- the second; one that passes it on leaves it as it is. So at the end it is the weight of the last edge that set it. The first edge of a route
-- does: from M or 0 on, its weight of 1 to 65,535 moves the value.
pub marks_decide : MarksDecide
marks_decide p kind n es h s t ps ms l k z = (some_marked p kind n es (rules_accept n es h) s t ps ms l k z, decides p kind (property p).start ps ms k)
