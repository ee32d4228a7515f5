-- Marks and fields of a line: their bytes, and what is read from them. Assumes nothing.
use Rattle.property.proofs.Basics.{◌≡◌, refl, ap, ◌∙◌, Bool, true, false, not, List, [], ◌∷◌, ◌++◌, Option, some, bind, ℕ, zero, suc, ◌+◌, ◌/◌, ◌%◌, arith, ltb, eqb, length, eqb-true, eq-eqb, ne_eqb}
use Rattle.property.proofs.Tests.{by_test}
use Rattle.graph.proofs.Tests.{both}
use Rattle.dimacs.proofs.Options.{none_some, some_same, by_option, bind_some}
use Rattle.dimacs.proofs.Digits.{number_digits, number_spells, stops}
use Rattle.dimacs.specs.Decimal.{digits, digits_by, is_digit, number}
use Rattle.dimacs.specs.Lines.{plain, fields_of}
use Rattle.dimacs.specs.Read.{after, fields}
use Rattle.dimacs.specs.Network.{or_else}

-- ---- a mark

pub after_mark : (p s : List ℕ) → after p (p ++ s) ≡ some s
unfolding after
after_mark [] s = refl
after_mark (c ∷ p) s = rw (eq-eqb c c refl, after_mark p s)

pub after_spells : (p s r : List ℕ) → after p s ≡ some r → s ≡ p ++ r
unfolding after
after_spells [] s r h = some_same h
after_spells (c ∷ p) [] r h = absurd (none_some h)
after_spells (c ∷ p) (b ∷ s) r h = by_test (eqb b c) (λ e. rw (eqb-true b c e, after_spells p s r (rw e at h))) (λ e. absurd (none_some (rw e at h)))

-- ---- fields

pub fields_stop : (vs : List ℕ) → stops (fields_of vs) ≡ true
unfolding fields_of stops is_digit
fields_stop [] = refl
fields_stop (v ∷ vs) = refl

pub fields_of_lem : (vs : List ℕ) → fields (length vs) (fields_of vs) ≡ some vs
unfolding fields_of fields after bind
fields_of_lem [] = refl
fields_of_lem (v ∷ vs) = rw (number_digits v (fields_of vs) (fields_stop vs), fields_of_lem vs)

pub fields_spell : (k : ℕ) (s vs : List ℕ) → fields k s ≡ some vs → s ≡ fields_of vs
unfolding fields fields_of
fields_spell zero [] vs h = let w : [] ≡ vs = some_same h in rw (← w)
fields_spell zero (b ∷ s) vs h = absurd (none_some h)
fields_spell (suc k) s vs h =
    let (r, p, h₁) = bind_some (after (32 ∷ []) s) _ vs h in
    let (q, p₁, h₂) = bind_some (number r) _ vs h₁ in
    let (us, p₂, h₃) = bind_some (fields k q.1) _ vs h₂ in
    after_spells (32 ∷ []) s r p ∙ rw (number_spells r q.1 q.0 p₁, fields_spell k q.1 us p₂) (ap fields_of (some_same h₃))

-- ---- no line feed stands in a number or in fields

pub plain_append : (s t : List ℕ) → plain s ≡ true → plain t ≡ true → plain (s ++ t) ≡ true
unfolding plain
plain_append [] t p q = q
plain_append (b ∷ s) t p q = let (x, y) = both (not (eqb b 10)) (plain s) p in rw (x, plain_append s t y q)

plain_digit : (d : ℕ) → plain ((48 + d) ∷ []) ≡ true
unfolding plain
plain_digit d = rw (ne_eqb (48 + d) 10 (λ z. omega arith))

plain_digits_by : (k : ℕ) (b : Bool) (v : ℕ) → plain (digits_by k b v) ≡ true
unfolding digits_by
plain_digits_by zero b v = plain_digit v
plain_digits_by (suc k) true v = plain_digit v
plain_digits_by (suc k) false v = plain_append (digits_by k (ltb (v / 10) 10) (v / 10)) ((48 + v % 10) ∷ []) (plain_digits_by k (ltb (v / 10) 10) (v / 10)) (plain_digit (v % 10))

pub plain_fields : (vs : List ℕ) → plain (fields_of vs) ≡ true
unfolding fields_of plain digits
plain_fields [] = refl
plain_fields (v ∷ vs) = plain_append (digits v) (fields_of vs) (plain_digits_by v (ltb v 10) v) (plain_fields vs)

-- ---- a line by its mark and fields

pub marked_fields : {A : Type 0} (p vs : List ℕ) (f : List ℕ → Option A) → bind (after p (p ++ fields_of vs)) (λ r. bind (fields (length vs) r) f) ≡ f vs
marked_fields p vs f = rw (after_mark p (fields_of vs)) (unfold bind in rw (fields_of_lem vs))

pub fields_marked : {A : Type 0} (p : List ℕ) (k : ℕ) (f : List ℕ → Option A) (l : List ℕ) (a : A) → bind (after p l) (λ r. bind (fields k r) f) ≡ some a
    → (vs : List ℕ) × (l ≡ p ++ fields_of vs) × (f vs ≡ some a)
fields_marked p k f l a h =
    let (r, x, h₁) = bind_some (after p l) _ a h in
    let (vs, y, h₂) = bind_some (fields k r) f a h₁ in
    (vs, after_spells p l r x ∙ ap (◌++◌ p) (fields_spell k r vs y), h₂)

-- a line of one of two kinds, each with a mark and so many fields, is spelled as what it says
pub either_spells : {A : Type 0} (spell : A → List ℕ)
    (p : List ℕ) (j : ℕ) (f : List ℕ → Option A) → ((vs : List ℕ) (a : A) → f vs ≡ some a → p ++ fields_of vs ≡ spell a)
    → (q : List ℕ) (k : ℕ) (g : List ℕ → Option A) → ((vs : List ℕ) (a : A) → g vs ≡ some a → q ++ fields_of vs ≡ spell a)
    → (l : List ℕ) (a : A) → or_else (bind (after p l) (λ r. bind (fields j r) f)) (bind (after q l) (λ r. bind (fields k r) g)) ≡ some a → l ≡ spell a
unfolding or_else
either_spells spell p j f x q k g y l a h = by_option (bind (after p l) (λ r. bind (fields j r) f))
    (λ e. let (vs, u, w) = fields_marked q k g l a (rw e at h) in u ∙ y vs a w)
    (λ b e. let (vs, u, w) = fields_marked p j f l a (e ∙ (rw e at h)) in u ∙ x vs a w)
