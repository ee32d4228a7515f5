-- What a line says, by its mark and its fields. The readers try one mark after the other, and no line has two. Assumes nothing.
use Rattle.property.proofs.Basics.{◌≡◌, refl, sym, ap, ◌∙◌, Bool, true, false, List, [], ◌∷◌, Option, none, some, bind, ℕ, arith, length, get_or, drop, eqb, eqb-true, ne_eqb}
use Rattle.property.proofs.Tests.{by_test}
use Rattle.dimacs.specs.Read.{after}
use Rattle.dimacs.specs.Network.{or_else}
use Rattle.dimacs.proofs.Options.{none_some}
use Rattle.scanner.specs.Capped.{cap_fields}
use Rattle.scanner.specs.Code.{begun}

-- ---- marks

-- a line does not begin with two marks whose first bytes differ
after_apart : (c d : ℕ) (p q l r : List ℕ) → (c ≡ d → ⊥) → some r ≡ after (c ∷ p) l → after (d ∷ q) l ≡ none
unfolding after
after_apart c d p q [] r n h = refl
after_apart c d p q (b ∷ s) r n h = by_test (eqb b c)
    (λ e. rw (ne_eqb b d (λ z. n (sym (eqb-true b c e) ∙ z))))
    (λ e. absurd (none_some (sym (rw e at h))))

else_none : {A : Type 0} (o : Option A) → or_else o none ≡ o
unfolding or_else
else_none none = refl
else_none (some a) = refl

-- what a line says that begins with the first mark, the second, or neither; `shown` caps an item
module _ {A : Type 0} (shown : Option A → Option A) (f g : List ℕ → Option A) (c d : ℕ) (p q l : List ℕ) {b : Bool} (e : begun b (c ∷ p) l ≡ after (c ∷ p) l) where
  pub first_mark : {x : Option A} → (c ≡ d → ⊥) → b ≡ true → x ≡ shown (f (drop (length (c ∷ p)) l)) → x ≡ shown (or_else (bind (after (c ∷ p) l) f) (bind (after (d ∷ q) l) g))
  unfolding bind
  first_mark n t h =
      let y : some (drop (length (c ∷ p)) l) ≡ after (c ∷ p) l = rw t at e in
      h ∙ ap shown (rw (after_apart c d p q l _ n y, ← y) (sym (else_none (f (drop (length (c ∷ p)) l)))))

  module _ {b' : Bool} (e' : begun b' (d ∷ q) l ≡ after (d ∷ q) l) (t : b ≡ false) where
    pub second_mark : {x : Option A} → b' ≡ true → x ≡ shown (g (drop (length (d ∷ q)) l)) → x ≡ shown (or_else (bind (after (c ∷ p) l) f) (bind (after (d ∷ q) l) g))
    unfolding bind or_else
    second_mark t' h = h ∙ ap shown (rw (← (rw t at e), ← (rw t' at e')))

    pub neither_mark : b' ≡ false → shown none ≡ shown (or_else (bind (after (c ∷ p) l) f) (bind (after (d ∷ q) l) g))
    unfolding bind or_else
    neither_mark t' = ap shown (rw (← (rw t at e), ← (rw t' at e')))

-- ---- fields, their numbers capped

-- what the fields of a line say, where saying and capping may change places
pub said_fields : {A : Type 0} (f : List ℕ → Option A) (g : Option A → Option A) → ((o : Option (List ℕ)) → bind (cap_fields o) f ≡ g (bind o f)) → {r : Option (List ℕ)} (o : Option (List ℕ)) → r ≡ cap_fields o → bind r f ≡ g (bind o f)
said_fields f g h o e = rw e (h o)

-- one, two and three numbers, one by one
pub one_value : (vs : List ℕ) → length vs ≡ 1 → vs ≡ get_or vs 0 0 ∷ []
one_value [] e = absurd (omega (arith, e))
one_value (a ∷ []) e = refl
one_value (a ∷ b ∷ vs) e = absurd (omega (arith, e))

pub two_values : (vs : List ℕ) → length vs ≡ 2 → vs ≡ get_or vs 0 0 ∷ get_or vs 1 0 ∷ []
two_values [] e = absurd (omega (arith, e))
two_values (a ∷ vs) e = let h : length vs ≡ 1 = omega (arith, e) in ap (λ ws. a ∷ ws) (one_value vs h)

pub three_values : (vs : List ℕ) → length vs ≡ 3 → vs ≡ get_or vs 0 0 ∷ get_or vs 1 0 ∷ get_or vs 2 0 ∷ []
three_values [] e = absurd (omega (arith, e))
three_values (a ∷ vs) e = let h : length vs ≡ 2 = omega (arith, e) in ap (λ ws. a ∷ ws) (two_values vs h)
