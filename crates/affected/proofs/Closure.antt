-- The closure of affected vertices: its test agrees with its record, marks that are closed have all of it, and the mark that an edge
-- makes is in it. Assumes nothing.
use Rattle.property.proofs.Basics.{◌≡◌, refl, sym, ap, ◌∙◌, ◌⊎◌, inl, inr, ⊎_elim, ◌≢◌, Bool, true, false, not, ◌||◌, cond, List, Memᴰ, ℕ, ◌<◌, ℕ_discrete, length, get_or, set, get_or-set_other, eqb, eqb-false, ne_eqb, not-true}
use lib.Seq.{set-get_or}
use Rattle.property.specs.Property.{Property}
use Rattle.graph.specs.Edge.{Edge}
use Rattle.graph.proofs.Tests.{both, and_true, or_right}
use Rattle.graph.proofs.Lists.{at_set}
use Rattle.run.specs.Run.{word, tight}
use Rattle.affected.specs.Net.{removed}
use Rattle.affected.specs.Affected.{Held, Affected, Closed, Named, at_removed, onward, held, marked, touches, mark}

-- ---- the test and the record

module _ (P : Property) (s : ℕ) (ws : List ℕ) (e : Edge) where
  held_of : held P s ws e ≡ true → Held P s ws e
  held_of h =
      let a = both (tight P ws e) _ h in
      let b = both (not (eqb e.head s)) (not (eqb (word P ws e.head) P.none)) a.1 in record {
        tight = a.0;
        elsewhere = eqb-false _ _ (not-true _ b.0);
        routed = eqb-false _ _ (not-true _ b.1);
      }

  pub of_held : Held P s ws e → held P s ws e ≡ true
  of_held h = and_true h.tight (and_true (ap not (ne_eqb _ _ h.elsewhere)) (ap not (ne_eqb _ _ h.routed)))

-- ---- one mark

-- to set a mark that is there changes nothing
pub set_there : (ms : List Bool) (h : ℕ) → marked ms h ≡ true → set ms h true ≡ ms
set_there ms h q = ap (set ms h) (sym q) ∙ set-get_or ms h false

-- bit h of l is set where b holds
module _ (l : List Bool) (h : ℕ) (b : Bool) where
  pub raise_keeps : h < length l → (t : ℕ) → get_or l t false ≡ true → get_or (cond b (set l h true) l) t false ≡ true
  raise_keeps k t q = elim b as (λ z. get_or (cond z (set l h true) l) t false ≡ true) [ true ↦ ⊎_elim (λ z. z.1) (λ z. z.1 ∙ q) (at_set l h true t false k) | false ↦ q ]

  pub raise_only : (t : ℕ) → get_or (cond b (set l h true) l) t false ≡ true → (get_or l t false ≡ true) ⊎ ((b ≡ true) × (t ≡ h))
  raise_only t = elim b as (λ z. get_or (cond z (set l h true) l) t false ≡ true → (get_or l t false ≡ true) ⊎ ((z ≡ true) × (t ≡ h))) [
    | true ↦ λ q. elim (ℕ_discrete t h) [ yes p ↦ inr (refl, p) | no d ↦ inl (sym (get_or-set_other l h t true false d) ∙ q) ]
    | false ↦ inl
  ]

-- ---- what marks say

module _ (P : Property) (es fs : List Edge) (s : ℕ) (ws : List ℕ) where
  -- ---- closed marks have every affected vertex

  pub closed_marked : (ms : List Bool) → Closed P es fs s ws es ms → {t : ℕ} → Affected P es fs s ws t → marked ms t ≡ true
  closed_marked ms c (at_removed {e = e} m r h) = c e m (and_true (of_held P s ws e h) (rw r))
  closed_marked ms c (onward {e = e} a m r h) = c e m (and_true (of_held P s ws e h) (or_right (removed P es fs e) (closed_marked ms c a)))

  -- ---- an edge marks affected vertices alone

  touches_named : (ms : List Bool) (e : Edge) → Named P es fs s ws ms → Memᴰ e es → touches P es fs s ws ms e ≡ true
      → Affected P es fs s ws e.head
  touches_named ms e g m h = let a = both (held P s ws e) _ h in pick (held_of P s ws e a.0) (removed P es fs e) refl a.1
    where
      pick : Held P s ws e → (b : Bool) → removed P es fs e ≡ b → (b || marked ms e.tail) ≡ true → Affected P es fs s ws e.head
      pick k true r q = at_removed m r k
      pick k false r q = onward (g e.tail q) m r k

  pub mark_named : (ms : List Bool) (e : Edge) → Named P es fs s ws ms → Memᴰ e es → Named P es fs s ws (mark P es fs s ws ms e)
  unfolding mark
  mark_named ms e g m t q = ⊎_elim (g t) (λ k. rw k.1 (touches_named ms e g m k.0)) (raise_only ms e.head (touches P es fs s ws ms e) t q)

  -- ---- whom the closure never has

  affected_elsewhere : {t : ℕ} → Affected P es fs s ws t → t ≢ s
  affected_elsewhere (at_removed m r h) = h.elsewhere
  affected_elsewhere (onward a m r h) = h.elsewhere

  -- the landmark is never affected
  pub landmark_unaffected : Affected P es fs s ws s → ⊥
  landmark_unaffected a = affected_elsewhere a refl
