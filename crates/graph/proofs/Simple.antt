-- Tables without twins: no edge stands twice in them, the two orders agree on them, and an edge whose pair is absent goes to one place by either.
-- Assumes nothing.
use Rattle.property.proofs.Basics.{◌≡◌, refl, sym, ap, ◌∙◌, ⊎_elim, true, false, true≢false, List, [], ◌∷◌, Memᴰ, Memᴰ-cases_cons, Memᴰ-not_nil, eqb, ltb}
use mathlib.Core.Bool as bool
use Rattle.property.proofs.Tests.{is_false, by_test}
use Rattle.graph.specs.Edge.{Edge, same_pair, same, precedes, exists, among}
use Rattle.graph.specs.Table.{table_order, insert}
use Rattle.graph.specs.Sorted.{Distinct, has}
use Rattle.graph.specs.Sorted as order
use Rattle.graph.specs.Simple.{pair_order, Simple}
use Rattle.graph.proofs.Tests.{and_true, neither, or_false, same_test}
use Rattle.graph.proofs.Edges.{true_exists, same_eq, pair_ends, ends_pair}

pub pair_turn : (e f : Edge) → same_pair e f ≡ same_pair f e
pair_turn e f = same_test (same_pair e f) (same_pair f e) (turn e f, turn f e)
  where
    turn : (e f : Edge) → same_pair e f ≡ true → same_pair f e ≡ true
    turn e f h = let (p, q) = pair_ends e f h in ends_pair f e (sym p) (sym q)

-- where no edge is of a pair, none of that pair is there
pub pair_absent : (e : Edge) (es : List Edge) → has pair_order es e ≡ false → among es e ≡ false
unfolding exists
pair_absent e [] h = refl
pair_absent e (f ∷ es) h =
    let (p, q) = neither (same_pair e f) (has pair_order es e) h in
    or_false (is_false (same e f) (λ s. let z = same_eq e f s in true≢false (sym (ends_pair e f (ap (λ x. x.tail) z) (ap (λ x. x.head) z)) ∙ p))) (pair_absent e es q)

pub simple_distinct : (es : List Edge) → Simple es → Distinct table_order es
simple_distinct [] d = tt
simple_distinct (e ∷ es) d = (pair_absent e es d.0, simple_distinct es d.1)

-- two edges of one pair are one
pub simple_once : (es : List Edge) → Simple es → (e f : Edge) → Memᴰ e es → Memᴰ f es → same_pair e f ≡ true → e ≡ f
simple_once [] d e f m k p = absurd (Memᴰ-not_nil m)
simple_once (x ∷ es) d e f m k p =
    ⊎_elim
    (λ a. ⊎_elim (λ b. a ∙ sym b) (λ l. absurd (twice f l (ap (λ y. same_pair y f) (sym a) ∙ p))) (Memᴰ-cases_cons k))
    (λ j. ⊎_elim (λ b. absurd (twice e j (ap (λ y. same_pair y e) (sym b) ∙ pair_turn f e ∙ p))) (λ l. simple_once es d.1 e f j l p) (Memᴰ-cases_cons k))
    (Memᴰ-cases_cons m)
  where
    twice : (g : Edge) → Memᴰ g es → same_pair x g ≡ true → ⊥
    twice g l q = true≢false (sym (true_exists (same_pair x) l q) ∙ d.0)

-- ---- the two orders

pub precedes_pair : (e f : Edge) → same_pair e f ≡ false → precedes e f ≡ pair_order.before e f
precedes_pair e f h = by_test (eqb e.tail f.tail)
    (λ p. by_test (eqb e.head f.head) (λ q. absurd (true≢false (sym (and_true p q) ∙ h))) (λ q. rw (p, q, bool.or-false (ltb e.head f.head))))
    (λ p. rw p)

pub insert_pair : (e : Edge) (es : List Edge) → has pair_order es e ≡ false → insert e es ≡ order.insert pair_order e es
unfolding order.insert exists
insert_pair e [] h = refl
insert_pair e (f ∷ es) h = let (p, q) = neither (same_pair e f) (has pair_order es e) h in rw (precedes_pair e f p, insert_pair e es q)
