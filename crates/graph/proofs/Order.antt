-- A table's order keeps the laws of an order, so that Sorted, Seek and Gather hold of it; and what the table's rules say of each edge.
-- Assumes nothing.
use Rattle.property.proofs.Basics.{◌≡◌, sym, ap, subst, ◌∙◌, ◌⊎◌, inl, inr, ⊎_elim, Bool, true, false, not, ◌&&◌, ◌||◌, true≢false, List, [], ◌∷◌, Memᴰ, Memᴰ-cases_cons, Memᴰ-not_nil, ℕ, ◌≤◌, ◌<◌, arith, ltb, eqb, ltb-true, ltb-false, lt-ltb, leb-true, eqb-true, eqb-false, not-true, eq-eqb}
use Rattle.property.proofs.Tests.{is_true, is_false, by_test}
use Rattle.graph.specs.Limits.{max_weight}
use Rattle.graph.specs.Refusal.{accept}
use Rattle.graph.specs.Edge.{Edge, same, precedes}
use Rattle.graph.specs.Table.{is_edge, table_order, rules}
pub use Rattle.graph.specs.Within.{Within}
use Rattle.graph.proofs.Tests.{both, and_true, neither, or_right, same_test}
use Rattle.graph.proofs.Edges.{same_own, same_eq}
use Rattle.graph.proofs.Sorted.{Ordered, Sorted}
use Rattle.graph.proofs.Sorted as sorted

-- ---- by one word, and where that is the same by what stands behind it

abbrev Before : ℕ → ℕ → Type 0 → Type 0
Before a b X = (a < b) ⊎ ((a ≡ b) × X)

module _ (a b : ℕ) (t : Bool) where
  before_of : (ltb a b || (eqb a b && t)) ≡ true → Before a b (t ≡ true)
  before_of h = by_test (ltb a b) (λ q. inl (ltb-true _ _ q)) (λ q. let z = both (eqb a b) t (rw q at h) in inr (eqb-true _ _ z.0, z.1))

  not_before : (ltb a b || (eqb a b && t)) ≡ false → (b ≤ a) × (a ≡ b → t ≡ false)
  not_before h = let z = neither (ltb a b) _ h in (ltb-false _ _ z.0, λ q. rw (eq-eqb a b q) at z.1)

  of_before : Before a b (t ≡ true) → (ltb a b || (eqb a b && t)) ≡ true
  of_before (inl l) = rw (lt-ltb a b l)
  of_before (inr (p, q)) = or_right (ltb a b) (and_true (eq-eqb a b p) q)

before_through : {X Y Z : Type 0} (a b c : ℕ) → (X → Y → Z) → Before a b X → Before b c Y → Before a c Z
before_through a b c f (inl k) (inl l) = inl (omega arith)
before_through a b c f (inl k) (inr (p, y)) = inl (omega arith)
before_through a b c f (inr (p, x)) (inl l) = inl (omega arith)
before_through a b c f (inr (p, x)) (inr (q, y)) = inr (p ∙ q, f x y)

-- ---- the order of edges

abbrev pub Less : Edge → Edge → Type 0
Less e f = Before e.tail f.tail (Before e.head f.head (e.weight < f.weight))

-- the tests of an edge's head and weight
abbrev behind : Edge → Edge → Bool
behind e f = ltb e.head f.head || (eqb e.head f.head && ltb e.weight f.weight)

before_map : {X Y : Type 0} {a b : ℕ} → (X → Y) → Before a b X → Before a b Y
before_map f (inl l) = inl l
before_map f (inr (p, x)) = inr (p, f x)

pub less_of : (e f : Edge) → precedes e f ≡ true → Less e f
less_of e f h = before_map (λ k. before_map (ltb-true _ _) (before_of e.head f.head _ k)) (before_of e.tail f.tail (behind e f) h)

pub of_less : (e f : Edge) → Less e f → precedes e f ≡ true
of_less e f l = of_before e.tail f.tail (behind e f) (before_map (λ k. of_before e.head f.head _ (before_map (lt-ltb _ _) k)) l)

pub precedes_tail : (e f : Edge) → precedes e f ≡ true → e.tail ≤ f.tail
precedes_tail e f h = ⊎_elim (λ a. omega arith) (λ a. let p = a.0 in omega arith) (less_of e f h)

-- ---- the laws

pub table_ordered : Ordered table_order
table_ordered = record {
  transitive = λ e f g h k. of_less e g (through e f g (less_of e f h) (less_of f g k));
  apart = λ e f h. is_false (same e f) (λ k. never e (subst (Less e) (sym (same_eq e f k)) (less_of e f h)));
  trichotomy = λ e f h k. is_true (precedes f e) (λ l. true≢false (sym (level e f h l) ∙ k));
  reflexive = same_own;
  symmetric = λ e f. same_test (same e f) (same f e) (turn e f, turn f e);
  level = λ e f g h. let z = same_eq e f h in (ap (precedes g) z, ap (λ x. precedes x g) z);
}
  where
    through : (e f g : Edge) → Less e f → Less f g → Less e g
    through e f g = before_through _ _ _ (before_through e.head f.head g.head (λ (k : e.weight < f.weight) (l : f.weight < g.weight). lower k l))
      where
        lower : e.weight < f.weight → f.weight < g.weight → e.weight < g.weight
        lower k l = omega arith

    never : (e : Edge) → Less e e → ⊥
    never e (inl a) = omega arith
    never e (inr (p, inl a)) = omega arith
    never e (inr (p, inr (q, a))) = omega arith

    level : (e f : Edge) → precedes e f ≡ false → precedes f e ≡ false → same e f ≡ true
    level e f h k =
        let (a, b) = not_before e.tail f.tail (behind e f) h in
        let (c, d) = not_before f.tail e.tail (behind f e) k in
        let p : e.tail ≡ f.tail = omega arith in
        let (x, y) = not_before e.head f.head (ltb e.weight f.weight) (b p) in
        let (u, v) = not_before f.head e.head (ltb f.weight e.weight) (d (sym p)) in
        let q : e.head ≡ f.head = omega arith in
        let m = ltb-false e.weight f.weight (y q) in
        let o = ltb-false f.weight e.weight (v (sym q)) in
        let r : e.weight ≡ f.weight = omega arith in
        and_true (eq-eqb e.tail _ p) (and_true (eq-eqb e.head _ q) (eq-eqb e.weight _ r))

    turn : (e f : Edge) → same e f ≡ true → same f e ≡ true
    turn e f h = rw (same_eq e f h) (same_own f)

-- ---- an edge's parts as facts

pub record EdgeFacts (n : ℕ) (e : Edge) : Type 0 where
  pub tail_below : e.tail < n
  pub head_below : e.head < n
  pub no_loop : e.tail ≡ e.head → ⊥
  pub some_weight : 0 < e.weight
  pub weight_most : e.weight ≤ max_weight

pub edge_facts : (n : ℕ) (e : Edge) → is_edge n e ≡ true → EdgeFacts n e
edge_facts n e h =
    let (p, h₁) = both (ltb e.tail n) _ h in
    let (q, h₂) = both (ltb e.head n) _ h₁ in
    let (r, h₃) = both (not (eqb e.tail e.head)) _ h₂ in
    let (s, t) = both (ltb 0 e.weight) _ h₃ in
    record { tail_below = ltb-true _ _ p; head_below = ltb-true _ _ q; no_loop = eqb-false _ _ (not-true _ r); some_weight = ltb-true _ _ s; weight_most = leb-true _ _ t }

-- ---- sound lists of edges

abbrev pub Sound : ℕ → List Edge → Type 0
Sound n es = Sorted table_order (is_edge n) es

pub rules_accept : (n : ℕ) (es : List Edge) → rules n es ≡ accept → Sound n es
rules_accept n es h = sorted.rules_accept table_order (is_edge n) es h

pub accept_rules : (n : ℕ) (es : List Edge) → Sound n es → rules n es ≡ accept
accept_rules n es h = sorted.accept_rules table_order (is_edge n) es h

pub sound_fit : (n : ℕ) (es : List Edge) → Sound n es → (e : Edge) → Memᴰ e es → EdgeFacts n e
sound_fit n [] h e m = absurd (Memᴰ-not_nil m)
sound_fit n (x ∷ es) h e m = ⊎_elim (λ q. rw q (edge_facts n x h.0)) (λ k. sound_fit n es h.2 e k) (Memᴰ-cases_cons m)

-- what theorems about runs need of the rules
pub within : (n : ℕ) (es : List Edge) → Sound n es → Within n es
within n es h = record {
  tails = λ e m. (sound_fit n es h e m).tail_below;
  heads = λ e m. (sound_fit n es h e m).head_below;
  weights = λ e m. (let l = (sound_fit n es h e m).weight_most in omega arith);
}
