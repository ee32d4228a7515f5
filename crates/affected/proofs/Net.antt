-- What theorems above know of the net effect: an edge that is not removed has one no worse in its place in the new table, and one that is
-- not added had one no worse in the old; an edge that stays is neither; the net effect is the same for reversed tables; and the claims of specs/Net.antt.
-- Assumes nothing.
--
--   Weighs fs == each edge of fs has a weight
--   Plain fs  == and no three words stand twice: as in a table that keeps the rules, and in the reversed one
use Rattle.property.proofs.Basics.{◌≡◌, refl, sym, ap, ◌∙◌, ⊎_elim, ◌≢◌, Bool, true, false, not, ◌&&◌, true≢false, false≢true, List, [], ◌∷◌, map, Memᴰ, Memᴰ-head, Memᴰ-tail, Memᴰ-cases_cons, Memᴰ-not_nil, ℕ, arith, eqb, eqb-false, ne_eqb, not-true}
use mathlib.Core.List.Memᴰ
use Rattle.property.proofs.Tests.{by_test, is_false}
use Rattle.property.specs.Property.{Property}
use Rattle.property.specs.Laws.{Laws}
use Rattle.graph.specs.Refusal.{accept}
use Rattle.graph.specs.Edge.{Edge, reverse, same_pair, among, exists, keep, keep_if}
use Rattle.graph.specs.Table.{is_edge, table_order, rules}
use Rattle.graph.specs.Sorted.{Distinct, has}
use Rattle.graph.specs.Simple.{pair_order, Simple, pair_weight}
use Rattle.graph.proofs.Tests.{both, and_true, neither, or_false}
use Rattle.graph.proofs.Edges.{keep_in, in_keep, keep_reverse, true_exists, mem_among, among_mem, reverse_mem, pair_ends, ends_pair}
use Rattle.graph.proofs.Sorted.{sorted_distinct}
use Rattle.graph.proofs.Order.{table_ordered, rules_accept, sound_fit}
use Rattle.graph.proofs.Simple.{simple_distinct, simple_once}
use Rattle.theory.proofs.Tight.{Stands}
use Rattle.affected.specs.Net.{others, sole, counterpart, lost, removed, added, Retuned, Gone, Tells, NetEffect, SimplyTells, NetConserved}

-- ---- the edge that a counterpart is the weight of

sole_found : (xs ys : List Edge) → sole xs ys ≢ 0 → (x y : Edge) × (xs ≡ x ∷ []) × (ys ≡ y ∷ []) × (sole xs ys ≡ y.weight)
unfolding sole
sole_found [] ys d = absurd (d refl)
sole_found (x ∷ []) [] d = absurd (d refl)
sole_found (x ∷ []) (y ∷ []) d = (x, y, refl, refl, refl)
sole_found (x ∷ []) (y ∷ z ∷ ys) d = absurd (d refl)
sole_found (x ∷ z ∷ xs) ys d = absurd (d refl)

one_in : {xs : List Edge} {x : Edge} → xs ≡ x ∷ [] → Memᴰ x xs
one_in q = rw q (Memᴰ-head refl)

in_one : {xs : List Edge} {x y : Edge} → xs ≡ x ∷ [] → Memᴰ y xs → y ≡ x
in_one q m = Memᴰ.eq_of_singleton (rw q at m)

other_in : (e : Edge) (es fs : List Edge) (x : Edge) → Memᴰ x (others e es fs) → Memᴰ x es × (same_pair e x ≡ true) × (among fs x ≡ false)
other_in e es fs x m =
    let z = keep_in (λ x. same_pair e x && not (among fs x)) es x m in
    let y = both (same_pair e x) (not (among fs x)) z.1 in
    (z.0, y.0, not-true _ y.1)

pub counterpart_found : (es fs : List Edge) (e : Edge) → counterpart es fs e ≢ 0
    → (f : Edge) × Memᴰ f fs × (same_pair e f ≡ true) × (counterpart es fs e ≡ f.weight)
unfolding counterpart
counterpart_found es fs e d = by_test (among fs e)
    (λ q. (e, among_mem fs e q, ends_pair e e refl refl, rw q))
    (λ q. let (x, y, p, r, z) = sole_found _ _ (rw q at d) in
    let o = other_in e fs _ y (one_in r) in
    (y, o.0, o.1, rw q z))

-- ---- what is lost, and what is not

-- an edge without a loss stands: there is one of its pair that is no worse
lost_stands : {P : Property} → Laws P → (es fs : List Edge) (e : Edge) → lost P e.weight (counterpart es fs e) ≡ false → Stands P fs e
lost_stands {P} L es fs e h =
    let a = neither (eqb (counterpart es fs e) 0) (P.worse (counterpart es fs e) e.weight) h in
    let (f, m, p, z) = counterpart_found es fs e (eqb-false _ _ a.0) in
    let b = pair_ends e f p in
    (f, m, b.0, b.1, λ v. L.worse_along v f.weight e.weight (ap (λ c. P.worse c e.weight) (sym z) ∙ a.1))

pub removed_stands : {P : Property} → Laws P → (es fs : List Edge) (e : Edge) → removed P es fs e ≡ false → Stands P fs e
removed_stands L es fs e h = lost_stands L es fs e h

pub added_stands : {P : Property} → Laws P → (es fs : List Edge) (e : Edge) → added P es fs e ≡ false → Stands P es e
added_stands L es fs e h = lost_stands L fs es e h

-- ---- an edge that stays

abbrev pub Weighs : List Edge → Type 0
Weighs fs = (f : Edge) → Memᴰ f fs → eqb f.weight 0 ≡ false

pub rules_weigh : (n : ℕ) (fs : List Edge) → rules n fs ≡ accept → Weighs fs
rules_weigh n fs h f m = let l = (sound_fit n fs (rules_accept n fs h) f m).some_weight in ne_eqb f.weight 0 (λ z. omega arith)

pub kept_weight : (es fs : List Edge) (e : Edge) → among fs e ≡ true → counterpart es fs e ≡ e.weight
unfolding counterpart
kept_weight es fs e q = rw q

-- an edge that is in the new table by its three words is not lost
pub kept_stays : {P : Property} → Laws P → (es fs : List Edge) → Weighs fs → (e : Edge) → Memᴰ e fs → removed P es fs e ≡ false
kept_stays L es fs h e m = rw (kept_weight es fs e (mem_among m)) (or_false (h e m) (L.worse_irreflexive e.weight))

-- ---- lists without the same three words twice

pub record Plain (fs : List Edge) : Type 0 where
  pub once : Distinct table_order fs
  pub weighs : Weighs fs

pub rules_plain : (n : ℕ) (fs : List Edge) → rules n fs ≡ accept → Plain fs
rules_plain n fs h = record { once = sorted_distinct table_ordered (is_edge n) fs (rules_accept n fs h); weighs = rules_weigh n fs h }

keep_none : (f : Edge → Bool) (es : List Edge) → ((x : Edge) → Memᴰ x es → f x ≡ false) → keep f es ≡ []
unfolding keep keep_if
keep_none f [] h = refl
keep_none f (x ∷ es) h = rw (h x (Memᴰ-head refl)) (keep_none f es (λ y m. h y (Memᴰ-tail m)))

-- a test that one edge of the list passes alone
keep_one : (f : Edge → Bool) (es : List Edge) → Distinct table_order es → (e : Edge) → Memᴰ e es → f e ≡ true
    → ((x : Edge) → Memᴰ x es → f x ≡ true → x ≡ e) → keep f es ≡ e ∷ []
unfolding keep keep_if
keep_one f [] h e m t one = absurd (Memᴰ-not_nil m)
keep_one f (x ∷ es) h e m t one = by_test (f x)
    (λ q. let p = one x (Memᴰ-head refl) q in
    rw (q, keep_none f es (λ y k. is_false (f y) (λ r. true≢false (sym (mem_among (rw (one y (Memᴰ-tail k) r ∙ sym p) at k)) ∙ h.0))), p))
    (λ q. rw q (keep_one f es h.1 e (⊎_elim (λ p. absurd (true≢false (sym t ∙ ap f p ∙ q))) (λ k. k) (Memᴰ-cases_cons m)) t (λ y k. one y (Memᴰ-tail k))))

-- ---- what counts as removed and added

other_of : (e : Edge) (es fs : List Edge) (x : Edge) → Memᴰ x es → same_pair e x ≡ true → (Memᴰ x fs → ⊥) → Memᴰ x (others e es fs)
other_of e es fs x m p d =
    in_keep (λ x. same_pair e x && not (among fs x)) m (and_true p (ap not (is_false (among fs x) (λ q. d (among_mem fs x q)))))

pub lacked : (fs : List Edge) (x : Edge) → among fs x ≡ false → Memᴰ x fs → ⊥
lacked fs x q m = true≢false (sym (mem_among m) ∙ q)

one_other : (e : Edge) (es fs : List Edge) → Distinct table_order es → (x : Edge) → Memᴰ x es → same_pair e x ≡ true → (Memᴰ x fs → ⊥)
    → ((y : Edge) → Memᴰ y es → same_pair e y ≡ true → (Memᴰ y fs → ⊥) → y ≡ x) → others e es fs ≡ x ∷ []
one_other e es fs h x m p d one =
    let o = other_in e es fs x (other_of e es fs x m p d) in
    keep_one (λ x. same_pair e x && not (among fs x)) es h x m (and_true p (ap not o.2))
    (λ y k r. let z = both (same_pair e y) (not (among fs y)) r in one y k z.0 (lacked fs y (not-true _ z.1)))

-- An edge that goes, and in whose place something stands, is the one other old edge of its pair: it is retuned.
pub counterpart_retuned : (es fs : List Edge) (e : Edge) → Memᴰ e es → (Memᴰ e fs → ⊥) → counterpart es fs e ≢ 0
    → (f : Edge) × Retuned es fs e f × (counterpart es fs e ≡ f.weight)
unfolding counterpart
counterpart_retuned es fs e m d c = by_test (among fs e) (λ q. absurd (d (among_mem fs e q)))
    (λ q. let (x, f, a, b, z) = sole_found _ _ (rw q at c) in
    let i = other_in e fs _ f (one_in b) in
    let p = in_one a (other_of e es fs e m (ends_pair e e refl refl) d) in (
      f,
      record {
        pair = i.1;
        old = (m, d);
        new = (i.0, lacked es f i.2);
        sole_old = λ y k s l. in_one a (other_of e es fs y k s l) ∙ sym p;
        sole_new = λ y k s l. in_one b (other_of e fs es y k s l);
      },
      rw q z,
    ))

pub retuned_weight : (es fs : List Edge) → Plain es → Plain fs → (e f : Edge) → Retuned es fs e f → counterpart es fs e ≡ f.weight
unfolding counterpart sole
retuned_weight es fs old new e f r = rw (
  is_false (among fs e) (λ q. r.old.1 (among_mem fs e q)),
  one_other e es fs old.once e r.old.0 (ends_pair e e refl refl) r.old.1 r.sole_old,
  one_other e fs es new.once f r.new.0 r.pair r.new.1 r.sole_new,
)

module _ {P : Property} (L : Laws P) (es fs : List Edge) (old : Plain es) (new : Plain fs) (e : Edge) where
  gone : removed P es fs e ≡ true → Gone P es fs e
  gone h = (λ k. true≢false (sym h ∙ kept_stays L es fs new.weighs e k), λ f r. rw (retuned_weight es fs old new e f r, new.weighs f r.new.0) at h)

  gone_removed : Memᴰ e es → Gone P es fs e → removed P es fs e ≡ true
  gone_removed m g = by_test (eqb (counterpart es fs e) 0) (λ q. rw q)
      (λ q. let (f, r, z) = counterpart_retuned es fs e m g.0 (eqb-false _ _ q) in rw (z, new.weighs f r.new.0) (g.1 f r))

tells : {P : Property} → Laws P → (es fs : List Edge) → Plain es → Plain fs → Tells P es fs
tells L es fs old new = (λ e m. (gone L es fs old new e, gone_removed L es fs old new e m), λ f m. (gone L fs es new old f, gone_removed L fs es new old f m))

-- ---- reversed tables

and_swap : (a b : Bool) → (a && b) ≡ (b && a)
and_swap true true = refl
and_swap true false = refl
and_swap false true = refl
and_swap false false = refl

and_front : (a b c : Bool) → (a && (b && c)) ≡ (b && (a && c))
and_front true b c = refl
and_front false true c = refl
and_front false false c = refl

pub among_reverse : (es : List Edge) (e : Edge) → among (map reverse es) (reverse e) ≡ among es e
unfolding exists
among_reverse [] e = refl
among_reverse (x ∷ es) e = rw (and_front (eqb e.head x.head) (eqb e.tail x.tail) (eqb e.weight x.weight), among_reverse es e)

keep_test : (f g : Edge → Bool) (es : List Edge) → ((x : Edge) → f x ≡ g x) → keep f es ≡ keep g es
unfolding keep
keep_test f g [] h = refl
keep_test f g (x ∷ es) h = rw (h x, keep_test f g es h)

others_reverse : (e : Edge) (es fs : List Edge) → others (reverse e) (map reverse es) (map reverse fs) ≡ map reverse (others e es fs)
others_reverse e es fs = keep_reverse _ es ∙ ap (map reverse) (keep_test _ _ es
    (λ x. rw (among_reverse fs x, and_swap (eqb e.head x.head) (eqb e.tail x.tail))))

sole_reverse : (xs ys : List Edge) → sole (map reverse xs) (map reverse ys) ≡ sole xs ys
unfolding sole
sole_reverse [] ys = refl
sole_reverse (x ∷ []) [] = refl
sole_reverse (x ∷ []) (y ∷ []) = refl
sole_reverse (x ∷ []) (y ∷ z ∷ ys) = refl
sole_reverse (x ∷ z ∷ xs) ys = refl

-- an edge stays reversed where it stays, and the others of the reversed pair are the others, reversed
pub net_reverse : (es fs : List Edge) (e : Edge) → counterpart (map reverse es) (map reverse fs) (reverse e) ≡ counterpart es fs e
unfolding counterpart
net_reverse es fs e = rw (among_reverse fs e, others_reverse e es fs, others_reverse e fs es, sole_reverse (others e es fs) (others e fs es))

pub weighs_reverse : (fs : List Edge) → Weighs fs → Weighs (map reverse fs)
weighs_reverse fs h f m = h (reverse f) (reverse_mem fs f m)

distinct_reverse : (fs : List Edge) → Distinct table_order fs → Distinct table_order (map reverse fs)
distinct_reverse [] h = tt
distinct_reverse (x ∷ fs) h = (among_reverse fs x ∙ h.0, distinct_reverse fs h.1)

plain_reverse : (fs : List Edge) → Plain fs → Plain (map reverse fs)
plain_reverse fs h = record { once = distinct_reverse fs h.once; weighs = weighs_reverse fs h.weighs }

pub net_effect : NetEffect
net_effect P L n es fs a b =
    let old = rules_plain n es a in
    let new = rules_plain n fs b in
    (tells L es fs old new, tells L (map reverse es) (map reverse fs) (plain_reverse es old) (plain_reverse fs new))

-- ---- tables without twins

weight_found : (fs : List Edge) (e : Edge) → exists (same_pair e) fs ≡ true → (f : Edge) × Memᴰ f fs × (same_pair e f ≡ true) × (pair_weight fs e ≡ f.weight)
unfolding pair_weight exists
weight_found [] e h = absurd (false≢true h)
weight_found (x ∷ fs) e h = by_test (same_pair e x) (λ q. (x, Memᴰ-head refl, q, rw q))
    (λ q. let (f, m, p, z) = weight_found fs e (rw q at h) in (f, Memᴰ-tail m, p, rw q z))

weight_none : (fs : List Edge) (e : Edge) → exists (same_pair e) fs ≡ false → pair_weight fs e ≡ 0
unfolding pair_weight exists
weight_none [] e h = refl
weight_none (x ∷ fs) e h = let z = neither (same_pair e x) _ h in rw z.0 (weight_none fs e z.1)

-- Where e stays, the one of its pair in the new table is e. Else e is the one other old edge; the new table has nothing of its pair, or one edge, which
-- the old one lacks, for e was its only one of the pair.
conserved : (es fs : List Edge) → Simple es → Simple fs → (e : Edge) → Memᴰ e es
    → counterpart es fs e ≡ pair_weight fs e
unfolding counterpart sole
conserved es fs old new e m = by_test (among fs e)
    (λ q. let k = among_mem fs e q in
    let (f, i, p, z) = weight_found fs e (true_exists (same_pair e) k own) in
    rw q (ap (λ (x : Edge). x.weight) (simple_once fs new e f k i p) ∙ sym z))
    (λ q. rw (q, one_other e es fs (simple_distinct es old) e m own (lacked fs e q) (λ y k p d. sym (simple_once es old e y m k p))) (by_test (exists (same_pair e) fs)
    (λ r. let (f, i, p, z) = weight_found fs e r in
    rw (one_other e fs es (simple_distinct fs new) f i p (λ k. lacked fs e q (rw (sym (simple_once es old e f m k p)) at i)) (λ y k s d. simple_once fs new y f k i (pairs y f s p))) (sym z))
    (λ r. rw (keep_none (λ x. same_pair e x && not (among es x)) fs (λ x k. is_false _ (λ b. true≢false (sym (true_exists (same_pair e) k (both _ _ b).0) ∙ r)))) (sym (weight_none fs e r)))))
  where
    own : same_pair e e ≡ true
    own = ends_pair e e refl refl

    pairs : (x y : Edge) → same_pair e x ≡ true → same_pair e y ≡ true → same_pair x y ≡ true
    pairs x y p q = let a = pair_ends e x p in let b = pair_ends e y q in ends_pair x y (sym a.0 ∙ b.0) (sym a.1 ∙ b.1)

-- reversed edges are of one pair where the edges are
simple_reverse : (es : List Edge) → Simple es → Simple (map reverse es)
unfolding exists
simple_reverse [] d = tt
simple_reverse (e ∷ es) d = (turned es ∙ d.0, simple_reverse es d.1)
  where
    turned : (xs : List Edge) → has pair_order (map reverse xs) (reverse e) ≡ has pair_order xs e
    turned [] = refl
    turned (x ∷ xs) = rw (and_swap (eqb e.head x.head) (eqb e.tail x.tail), turned xs)

simply_tells : (P : Property) (es fs : List Edge) → Simple es → Simple fs → SimplyTells P es fs
simply_tells P es fs old new =
    (λ e m. ap (lost P e.weight) (conserved es fs old new e m), λ f m. ap (lost P f.weight) (conserved fs es new old f m))

pub net_conserved : NetConserved
net_conserved P es fs old new = (simply_tells P es fs old new, simply_tells P (map reverse es) (map reverse fs) (simple_reverse es old) (simple_reverse fs new))
