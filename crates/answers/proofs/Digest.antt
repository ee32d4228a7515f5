-- The vertex that a digest names loses most, and is the lowest that does; moves are judged as the values: the claims of specs/Digest.antt, proved. Assumes nothing.
--
--   Leader i u == of the vertices below i, u loses most, and is the lowest that does
--   SoFar i u  == u is that one, or it is n and none of them loses
use Rattle.property.proofs.Basics.{◌≡◌, refl, sym, ap, ◌∙◌, subst, ◌⊎◌, inl, inr, ⊎_elim, ◌≢◌, Bool, true, false, not, ◌&&◌, ◌||◌, cond, true≢false, false≢true, foldl, ℕ, zero, suc, ◌+◌, ◌-◌, ◌<◌, ℕ_discrete, arith, ltb, eqb, ltb-true, ltb-false, lt-ltb, le-ltb, eqb-true, eq-eqb, ne_eqb}
use lib.IntN.{ℤ, pos, negsuc, ◌-ℤ◌}
use lib.Signed.{lt_z}
use Rattle.property.specs.Property.{Property}
use Rattle.property.proofs.Tests.{tests, by_test}
use Rattle.property.proofs.Instances.{by_property}
use Rattle.graph.specs.Edge.{range}
use Rattle.graph.proofs.Tests.{and_true, and_false, or_false, or_right, same_test}
use Rattle.answers.specs.Preview.{Shown}
use Rattle.answers.specs.Digest.{rises, effect_at, move_at, improves, worsens, loses, loses_more, most, DigestMost, MovesJudged}

-- ---- numbers with a sign

lt_self : (a : ℤ) → lt_z a a ≡ false
lt_self (pos a) = le-ltb a a (omega arith)
lt_self (negsuc a) = le-ltb a a (omega arith)

-- what is not below b is above all that is, and not below it
lt_far : (a b c : ℤ) → lt_z a b ≡ true → lt_z c b ≡ false → (lt_z a c ≡ true) × (lt_z c a ≡ false)
lt_far (pos a) (pos b) (pos c) h k = (omega tests, omega tests)
lt_far (pos a) (pos b) (negsuc c) h k = absurd (true≢false k)
lt_far (pos a) (negsuc b) c h k = absurd (false≢true h)
lt_far (negsuc a) (pos b) (pos c) h k = (refl, refl)
lt_far (negsuc a) (pos b) (negsuc c) h k = absurd (true≢false k)
lt_far (negsuc a) (negsuc b) (pos c) h k = (refl, refl)
lt_far (negsuc a) (negsuc b) (negsuc c) h k = (omega tests, omega tests)

-- .. and what is not above b is below all that is, and not above it
lt_near : (a b c : ℤ) → lt_z b a ≡ true → lt_z b c ≡ false → (lt_z c a ≡ true) × (lt_z a c ≡ false)
lt_near a b c h k = by_test (lt_z c a) (λ z. (z, (lt_far c a a z (lt_self a)).1)) (λ z. absurd (true≢false (sym (lt_far b a c h z).0 ∙ k)))

-- ---- of two vertices one loses more

module _ (P : Property) where
  -- by whether the route is lost, and by the move
  abbrev more : Bool → ℤ → Bool → ℤ → Bool
  more x d y g = not y && (x || cond (rises P) (lt_z d g) (lt_z g d))

  more_self : (x : Bool) (d : ℤ) → more x d x d ≡ false
  more_self true d = refl
  more_self false d = by_test (rises P) (λ z. rw z (lt_self d)) (λ z. rw z (lt_self d))

  -- one that loses more than another loses more than all that do not, and none of these more than it
  more_far : (x : Bool) (a : ℤ) (y : Bool) (b : ℤ) (z : Bool) (c : ℤ) → more x a y b ≡ true → more z c y b ≡ false → (more x a z c ≡ true) × (more z c x a ≡ false)
  more_far x a true b z c h k = absurd (false≢true h)
  more_far x a false b true c h k = absurd (true≢false k)
  more_far true a false b false c h k = (refl, refl)
  more_far false a false b false c h k =
      by_test (rises P) (λ z. rw z (lt_far a b c (rw z at h) (rw z at k))) (λ z. rw z (lt_near a b c (rw z at h) (rw z at k)))

  -- one that lost its route loses more than all but those that lost theirs
  lost_too : (x : Bool) (a : ℤ) (y : Bool) (b : ℤ) → x ≡ true → more x a y b ≡ false → y ≡ true
  lost_too true a true b e h = refl
  lost_too true a false b e h = absurd (true≢false h)
  lost_too false a y b e h = absurd (false≢true e)

-- ---- along the vertices

module _ (P : Property) (n : ℕ) (out : Shown) where
  record Leader (i u : ℕ) : Type 0 where
    under : u < i
    named : loses P out u ≡ true
    unrivalled : (t : ℕ) → t < i → loses P out t ≡ true → loses_more P out t u ≡ false
    lowest : (t : ℕ) → t < u → loses P out t ≡ true → loses_more P out u t ≡ true

  abbrev SoFar : ℕ → ℕ → Type 0
  SoFar i u = Leader i u ⊎ ((u ≡ n) × ((t : ℕ) → t < i → loses P out t ≡ false))

  -- of the vertices below suc i: i, or one below it
  upto : {Q : ℕ → Type 0} (i : ℕ) → Q i → ((t : ℕ) → t < i → Q t) → (t : ℕ) → t < suc i → Q t
  upto {Q} i q f t h = elim (ℕ_discrete t i) [ yes e ↦ subst Q (sym e) q | no d ↦ f t (omega arith) ]

  module _ (i u : ℕ) (inside : i < n) where
    abbrev lost : ℕ → Bool
    lost t = eqb (effect_at out.effects t) 2

    -- where the vertex i is taken, and where it is not
    led : loses P out i ≡ true → ((t : ℕ) → t < i → loses P out t ≡ true → (loses_more P out i t ≡ true) × (loses_more P out t i ≡ false)) → Leader (suc i) i
    led l f = record {
      under = omega arith;
      named = l;
      unrivalled = upto i (λ q. more_self P (lost i) (move_at out.moves i)) (λ t k q. (f t k q).1);
      lowest = λ t k q. (f t k q).0;
    }

    held : (loses P out i ≡ true → loses_more P out i u ≡ false) → Leader i u → Leader (suc i) u
    held f a = record {
      under = let z = a.under in omega arith;
      named = a.named;
      unrivalled = upto i f a.unrivalled;
      lowest = a.lowest;
    }

    -- a test x that takes i where it loses, and u is n or loses less, and only there
    onward : (x : Bool) → (loses P out i ≡ true → (u ≡ n) ⊎ (loses_more P out i u ≡ true) → x ≡ true)
        → ((loses P out i ≡ false) ⊎ ((u ≢ n) × (loses_more P out i u ≡ false)) → x ≡ false) → SoFar i u → SoFar (suc i) (cond x i u)
    onward x taken left z = by_test (loses P out i)
        (λ l. ⊎_elim (λ a. by_test (loses_more P out i u)
        (λ m. rw (taken l (inr m)) (inl (led l (λ t k q.
        more_far P (lost i) (move_at out.moves i) (lost u) (move_at out.moves u) (lost t) (move_at out.moves t) m (a.unrivalled t k q)))))
        (λ m. rw (left (inr (let y = a.under in λ e. omega arith, m))) (inl (held (λ _. m) a))))
        (λ c. rw (taken l (inl c.0)) (inl (led l (λ t k q. absurd (true≢false (sym q ∙ c.1 t k)))))) z)
        (λ l. rw (left (inl l)) (⊎_elim (λ a. inl (held (λ q. absurd (true≢false (sym q ∙ l))) a)) (λ c. inr (c.0, upto i l c.1)) z))

  route_loses : (t : ℕ) → effect_at out.effects t ≡ 2 → loses P out t ≡ true
  route_loses t e = rw (eq-eqb (effect_at out.effects t) 2 e)

  walk : (f : ℕ → ℕ → ℕ) → ((i u : ℕ) → i < n → SoFar i u → SoFar (suc i) (f u i)) → (k i u : ℕ) → i + k ≡ n → SoFar i u → SoFar n (foldl f u (range i k))
  unfolding range
  walk f turn zero i u e z = subst (λ x. SoFar x u) (omega arith) z
  walk f turn (suc k) i u e z = walk f turn k (suc i) (f u i) (omega arith) (turn i u (omega arith) z)

  -- the whole walk, where the definition itself says by which steps
  walked : (z : ℕ) {f : ℕ → ℕ → ℕ} {u : ℕ} → z ≡ foldl f u (range 0 n) → SoFar 0 u → ((i u : ℕ) → i < n → SoFar i u → SoFar (suc i) (f u i)) → SoFar n z
  walked z {f} {u} e s turn = subst (SoFar n) (sym e) (walk f turn n 0 u (omega arith) s)

  at_end_lem : SoFar n (most P n out)
  at_end_lem = walked (most P n out) refl (inr (refl, λ t h. absurd (omega arith))) (λ i u h. onward i u h _
      (λ l. ⊎_elim (λ e. and_true l (ap (λ x. x || loses_more P out i u) (eq-eqb u n e))) (λ m. and_true l (or_right (eqb u n) m)))
      (⊎_elim (λ l. and_false (loses P out i) _ (inl l)) (λ c. and_false (loses P out i) _ (inr (or_false (ne_eqb u n c.0) c.1)))))

-- From vertex to vertex the one that is named is the lowest of those that lose most so far. One that loses more than it loses more than all that were
-- before; and where none has lost so far, n is named.
pub digest_most : DigestMost
digest_most P n out = ⊎_elim
    (λ a. record {
      within = let z = a.under in omega arith;
      named = λ _. a.named;
      route_first = λ t h e. eqb-true _ _ (lost_too P _ (move_at out.moves t) _ (move_at out.moves (most P n out)) (eq-eqb _ 2 e) (a.unrivalled t h (route_loses P n out t e)));
      unrivalled = λ _. a.unrivalled;
      lowest = λ _. a.lowest;
      none = (λ e. let z = a.under in absurd (omega arith), λ f. absurd (true≢false (sym a.named ∙ f _ a.under)));
    })
    (λ c. record {
      within = let z = c.0 in omega arith;
      route_first = λ t h e. absurd (true≢false (sym (route_loses P n out t e) ∙ c.1 t h));
      named = λ h. let z = c.0 in absurd (omega arith);
      unrivalled = λ h. let z = c.0 in absurd (omega arith);
      lowest = λ h. let z = c.0 in absurd (omega arith);
      none = (λ _. c.1, λ _. c.0);
    })
    (at_end_lem P n out)

-- ---- what a move says of the values

sign_pick : (t : Bool) (a b : ℕ) → ltb b (suc a) ≡ t → let d = cond t (negsuc (suc a - suc b)) (pos (b - suc a)) in
    (lt_z (pos 0) d ≡ ltb (suc a) b) × (lt_z d (pos 0) ≡ ltb b (suc a))
sign_pick true a b e = let h = ltb-true b (suc a) e in (sym (le-ltb (suc a) b (omega arith)), sym e)
sign_pick false a b e =
    let h = ltb-false b (suc a) e in (
      same_test _ _ (λ p. lt-ltb (suc a) b (let z = ltb-true 0 (b - suc a) p in omega arith), λ p. lt-ltb 0 (b - suc a) (let z = ltb-true (suc a) b p in omega arith)),
      le-ltb (b - suc a) 0 (omega arith) ∙ sym e,
    )

-- the difference is above 0, or below it, as b is above a, or below
sign_same : (a b : ℕ) → (lt_z (pos 0) (pos b -ℤ pos a) ≡ ltb a b) × (lt_z (pos b -ℤ pos a) (pos 0) ≡ ltb b a)
sign_same zero b = let z : b + 0 ≡ b = omega arith in (ap (ltb 0) z, ap (λ x. ltb x 0) z)
sign_same (suc a) b = sign_pick (ltb b (suc a)) a b refl

-- where less is better, and where more is
pub moves_judged : MovesJudged
moves_judged p a b =
    let (more, less) = sign_same a b in
    by_property (λ P. (improves P (pos b -ℤ pos a) ≡ P.better b a) × (worsens P (pos b -ℤ pos a) ≡ P.better a b))
    (less, more) (less, more) (more, less) (less, more) (more, less) p
