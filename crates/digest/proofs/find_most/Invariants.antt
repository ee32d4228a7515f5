-- `digest::find_most` meets its contract: of the vertices below t the one that loses most is found. Assumes nothing.
use Rattle.property.proofs.Basics.{arith, ◌≡◌, refl, sym, ap, ap₂, ◌∙◌, ◌≢◌, inl, inr, Bool, true, false, cond, ◌&&◌, ◌||◌, List, ℕ, ◌+◌, ◌^◌, ◌<◌, ◌≤◌, eqb, eq-eqb, ne_eqb, foldl}
use lib.IntN.{ℤ}
use lib.Signed.{mag}
use mir.Syntax.{w64}
use mir.Val.{to_z, of_z}
use Rattle.property.specs.Property.{Property, property}
use Rattle.graph.specs.Edge.{range}
use Rattle.graph.proofs.Tests.{and_true, and_false, or_right, or_false}
use Rattle.effects.specs.Code.{shown_of}
use Rattle.answers.specs.Digest.{is_more, loses, loses_more}
use Rattle.digest.proofs.Choosing.{told}
use Rattle.digest.proofs.Turning.{fold_more}
use Rattle.digest.proofs.find_most.Given as goal

pub more_told : (P : Property) (e : ℕ) (d : ℤ) (f : ℕ) (g : ℤ) → mag d < 2 ^ 63 → mag g < 2 ^ 63 → is_more P e (to_z w64 (of_z w64 d)) f (to_z w64 (of_z w64 g)) ≡ is_more P e d f g
more_told P e d f g h k = ap₂ (λ (x y : ℤ). is_more P e x f y) (told d h) (told g k)

module _ (p n : ℕ) (xs : List ℕ) (ys : List ℤ) where
  abbrev pub lost : ℕ → Bool
  lost t = loses (property p) (shown_of xs ys) t

  abbrev pub more : ℕ → ℕ → Bool
  more t u = loses_more (property p) (shown_of xs ys) t u

  abbrev pub is_next : ℕ → ℕ → Bool
  is_next u t = lost t && (eqb u n || more t u)

  abbrev pub next : ℕ → ℕ → ℕ
  next u t = cond (is_next u t) t u

  abbrev pub Found : ℕ → ℕ → Type 0
  Found u t = (u ≡ foldl next n (range 0 t)) × (t ≤ n) × (u ≤ n)

  pub found_start : Found n 0
  unfolding range
  found_start = (refl, omega arith, omega arith)

  -- the four ways of the turn at t, which ends with m
  pub record Turn (u t m : ℕ) : Type 0 where
    pub first : lost t ≡ true → u ≡ n → m ≡ t → Found m (t + 1)
    pub worse : lost t ≡ true → more t u ≡ true → m ≡ t → Found m (t + 1)
    pub less : u ≢ n → more t u ≡ false → m ≡ u → Found m (t + 1)
    pub spared : lost t ≡ false → m ≡ u → Found m (t + 1)

  pub turn : (u t m : ℕ) → t < n → Found u t → Turn u t m
  turn u t m h f = record {
    first = λ a b e. (on true (rw (a, eq-eqb u n b)) e, omega arith, omega arith);
    worse = λ a b e. (on true (and_true a (or_right (eqb u n) b)) e, omega arith, omega arith);
    less = λ a b e. (on false (and_false (lost t) _ (inr (or_false (ne_eqb u n a) b))) e, omega arith, omega arith);
    spared = λ a e. (on false (and_false _ _ (inl a)) e, omega arith, omega arith);
  }
    where
      on : (b : Bool) → is_next u t ≡ b → m ≡ cond b t u → m ≡ foldl next n (range 0 (t + 1))
      on b q e = fold_more next n t u m f.0 (e ∙ ap (λ (b : Bool). cond b t u) (sym q))

abbrev pub invariant-loop-t : goal.invariant-loop-t
invariant-loop-t l =
    Found l.p l.n l.effects l.moves l.most l.t
