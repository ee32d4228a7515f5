-- The claims of specs/Upgrade.antt. Assumes nothing.
use Rattle.property.proofs.Basics.{◌≡◌, refl, sym, ap, ◌∙◌, ◌≢◌, inr, Bool, true, false, not, ◌&&◌, ◌||◌, cond, true≢false, false≢true, List, [], ◌∷◌, ℕ, suc, ltb, eqb, eqb-true, eq-eqb, not-false}
use Rattle.property.proofs.Tests.{by_test, is_false}
use Rattle.graph.specs.Refusal.{accept, refuse, ◌▷◌, refuse_if}
use Rattle.graph.specs.Edge.{Edge, edge, same, same_pair, precedes, exists, among}
use Rattle.graph.specs.Table.{is_weight, is_edge, table_order, insert, delete, update}
use Rattle.graph.specs.Sorted as order
use Rattle.graph.specs.Simple.{pair_order, Simple, pair_weight}
use Rattle.graph.proofs.Tests.{both, and_false, neither}
use Rattle.graph.proofs.Edges.{exists_true, true_exists, same_own, same_eq, among_mem, pair_ends, ends_pair}
use Rattle.graph.proofs.Verdicts.{not_accept, then_accept, accept_then, refuse_then, if_accept, then_same}
use Rattle.graph.proofs.Sorted.{Ordered, Ahead, Sorted, rules_accept, accept_rules, before_asym, insert_sorted, delete_sorted, sorted_distinct}
use Rattle.graph.proofs.Order.{table_ordered}
use Rattle.graph.proofs.Keeps.{ahead_mem}
use Rattle.graph.proofs.Simple.{simple_once, precedes_pair, insert_pair}
use Rattle.network.specs.Change.{Change, edit, edits, words, against, item, items}
use Rattle.network.proofs.Items.{refuse_if_lem, Taken, item_taken}
use Rattle.network.specs.Upgrade.{ChangeBefore, edge_before, paired, words_before, against_before, item_before, reweigh, edit_before, edits_before, items_before, weight_named, renamed, renamed_all, OrderConserved, BatchConserved}

-- ---- the order by pair keeps the laws: it is the table's order of edges without their weights

and_one : (b : Bool) → (b && true) ≡ b
and_one true = refl
and_one false = refl

or_none : (a b : Bool) → (a || (b && false)) ≡ a
or_none true b = refl
or_none false true = refl
or_none false false = refl

abbrev bare : Edge → Edge
bare e = edge e.tail e.head 0

before_bare : (e f : Edge) → pair_order.before e f ≡ precedes (bare e) (bare f)
before_bare e f = ap (λ b. ltb e.tail f.tail || (eqb e.tail f.tail && b)) (sym (or_none (ltb e.head f.head) (eqb e.head f.head)))

same_bare : (e f : Edge) → same_pair e f ≡ same (bare e) (bare f)
same_bare e f = ap (λ b. eqb e.tail f.tail && b) (sym (and_one (eqb e.head f.head)))

pairs_ordered : Ordered pair_order
pairs_ordered = record {
  transitive = λ a b c h k. before_bare a c ∙ table_ordered.transitive (bare a) (bare b) (bare c) (sym (before_bare a b) ∙ h) (sym (before_bare b c) ∙ k);
  apart = λ a b h. same_bare a b ∙ table_ordered.apart (bare a) (bare b) (sym (before_bare a b) ∙ h);
  trichotomy = λ a b h k. before_bare b a ∙ table_ordered.trichotomy (bare a) (bare b) (sym (before_bare a b) ∙ h) (sym (same_bare a b) ∙ k);
  reflexive = λ a. same_bare a a ∙ table_ordered.reflexive (bare a);
  symmetric = λ a b. same_bare a b ∙ table_ordered.symmetric (bare a) (bare b) ∙ sym (same_bare b a);
  level = λ a b c h. (let z = table_ordered.level (bare a) (bare b) (bare c) (sym (same_bare a b) ∙ h) in
      (before_bare c a ∙ z.0 ∙ sym (before_bare c b), before_bare a c ∙ z.1 ∙ sym (before_bare b c)));
}

-- ---- of different pairs the weight is not asked

before_triples : (e f : Edge) → pair_order.before e f ≡ true → precedes e f ≡ true
before_triples e f h = precedes_pair e f (pairs_ordered.apart e f h) ∙ h

follow_conserved : (t : Edge → Bool) (i : ℕ) (p : Edge) (es : List Edge) → Simple (p ∷ es) → order.follow pair_order t i p es ≡ order.follow table_order t i p es
unfolding order.follow exists
follow_conserved t i p [] d = refl
follow_conserved t i p (x ∷ es) d =
    ap (λ b. refuse_if (not (b && t x)) 4 i ▷ order.follow pair_order t (suc i) x es) (sym (precedes_pair p x (neither (same_pair p x) (order.has pair_order es p) d.0).0))
    ∙ ap (λ v. refuse_if (not (precedes p x && t x)) 4 i ▷ v) (follow_conserved t (suc i) x es d.1)

-- Neighbours of such a list are of different pairs, and so stand in one order where they stand in the other.
pub order_conserved : OrderConserved
unfolding order.rules
order_conserved n [] d = refl
order_conserved n (x ∷ es) d = ap (λ v. refuse_if (not (is_edge n x)) 4 0 ▷ v) (follow_conserved (is_edge n) 1 x es d)

-- ---- the edge of a pair

-- the edge of e's pair that stands in es: it names the weight there
abbrev pair_edge : List Edge → Edge → Edge
pair_edge es e = edge e.tail e.head (weight_named es e)

other_pair : (e x : Edge) (w : ℕ) → same_pair e x ≡ false → same (edge e.tail e.head w) x ≡ false
other_pair e x w h = is_false _ (λ q. let z = same_eq (edge e.tail e.head w) x q in
    true≢false (sym (ends_pair e x (ap (λ y. y.tail) z) (ap (λ y. y.head) z)) ∙ h))

own_pair : (e x : Edge) → same_pair e x ≡ true → same (edge e.tail e.head x.weight) x ≡ true
own_pair e x h = let z = pair_ends e x h in rw (z.0, z.1) (same_own x)

pair_gone : (es : List Edge) (e : Edge) (w : ℕ) → paired es e ≡ false → among es (edge e.tail e.head w) ≡ false
unfolding exists
pair_gone [] e w h = refl
pair_gone (x ∷ es) e w h = let z = neither (same_pair e x) (paired es e) h in rw (other_pair e x w z.0) (pair_gone es e w z.1)

weight_more : (x : Edge) (es : List Edge) (e : Edge) → same_pair e x ≡ false → weight_named (x ∷ es) e ≡ weight_named es e
unfolding pair_weight exists
weight_more x es e q = rw q

among_pair_edge : (es : List Edge) (e : Edge) → among es (pair_edge es e) ≡ paired es e
unfolding pair_weight exists
among_pair_edge [] e = refl
among_pair_edge (x ∷ es) e = by_test (same_pair e x) (λ q. rw (q, own_pair e x q)) (λ q. rw (q, other_pair e x (weight_named es e) q) (ap (λ (w : ℕ). among es (edge e.tail e.head w)) (weight_more x es e q) ∙ among_pair_edge es e))

-- a delete by the three words of that edge is the delete by its pair
delete_pair_edge : (es : List Edge) (e : Edge) → delete (pair_edge es e) es ≡ order.delete pair_order e es
unfolding pair_weight exists order.delete
delete_pair_edge [] e = refl
delete_pair_edge (x ∷ es) e = by_test (same_pair e x)
    (λ q. rw (q, own_pair e x q))
    (λ q. rw (q, other_pair e x (weight_named es e) q)
    (ap (λ (w : ℕ). x ∷ delete (edge e.tail e.head w) es) (weight_more x es e q) ∙ ap (λ (l : List Edge). x ∷ l) (delete_pair_edge es e)))

pair_edge_weighs : (n : ℕ) (es : List Edge) → Sorted pair_order (is_edge n) es → (e : Edge) → is_weight (weight_named es e) ≡ true
unfolding pair_weight exists
pair_edge_weighs n [] h e = refl
pair_edge_weighs n (x ∷ es) h e = by_test (same_pair e x) (λ q. rw q (weighs h.0)) (λ q. rw q (pair_edge_weighs n es h.2 e))
  where
    weighs : is_edge n x ≡ true → is_weight x.weight ≡ true
    weighs k =
        let a = both (ltb x.tail n) _ k in
        let b = both (ltb x.head n) _ a.1 in
        (both (not (eqb x.tail x.head)) _ b.1).1

-- an edge of a pair that stands once is the one that stands
pair_edge_own : (es : List Edge) → Simple es → (e : Edge) → among es e ≡ true → weight_named es e ≡ e.weight
pair_edge_own es d e m =
    let k = among_mem es e m in
    let p : paired es e ≡ true = true_exists (same_pair e) k (ends_pair e e refl refl) in
    ap (λ x. x.weight) (simple_once es d (pair_edge es e) e (among_mem es (pair_edge es e) (among_pair_edge es e ∙ p)) k (ends_pair (pair_edge es e) e refl refl))

-- ---- one edge more, one edge less, another weight

module _ (t : Edge → Bool) where
  -- The edge that is put in comes before what came after the one that was struck, and after what came before it, since it is of the same pair.
  update_conserved : (e : Edge) (es : List Edge) → Sorted pair_order t es → paired es e ≡ true → update (pair_edge es e) e es ≡ reweigh e es
  unfolding pair_weight exists order.insert order.delete reweigh
  update_conserved e [] h p = absurd (false≢true p)
  update_conserved e (x ∷ es) h p = by_test (same_pair e x)
      (λ q. rw (q, own_pair e x q) (first q es h.1))
      (λ q. let k : paired es e ≡ true = rw q at p in
      rw (q, other_pair e x (weight_named es e) q, precedes_pair e x q ∙ after k)
      (ap (λ (w : ℕ). x ∷ update (edge e.tail e.head w) e es) (weight_more x es e q) ∙ ap (λ (l : List Edge). x ∷ l) (update_conserved e es h.2 k)))
    where
      first : same_pair e x ≡ true → (ys : List Edge) → Ahead pair_order x ys → insert e ys ≡ e ∷ ys
      first q [] b = refl
      first q (y ∷ ys) b = rw (before_triples e y ((pairs_ordered.level e x y q).1 ∙ b))

      after : paired es e ≡ true → pair_order.before e x ≡ false
      after k =
          let (y, m, s) = exists_true (same_pair e) es k in
          before_asym pairs_ordered x e ((pairs_ordered.level e y x s).0 ∙ ahead_mem pairs_ordered t x es h.1 h.2 y m)

  ahead_reweigh : (p e : Edge) (es : List Edge) → Ahead pair_order p es → Ahead pair_order p (reweigh e es)
  unfolding reweigh
  ahead_reweigh p e [] b = tt
  ahead_reweigh p e (x ∷ es) b = by_test (same_pair e x) (λ q. rw q ((pairs_ordered.level e x p q).0 ∙ b)) (λ q. rw q b)

  reweigh_sorted : (e : Edge) (es : List Edge) → Sorted pair_order t es → t e ≡ true → Sorted pair_order t (reweigh e es)
  unfolding reweigh
  reweigh_sorted e [] h f = tt
  reweigh_sorted e (x ∷ es) h f = by_test (same_pair e x)
      (λ q. rw q (f, level q es h.1, h.2))
      (λ q. rw q (h.0, ahead_reweigh x e es h.1, reweigh_sorted e es h.2 f))
    where
      level : same_pair e x ≡ true → (ys : List Edge) → Ahead pair_order x ys → Ahead pair_order e ys
      level q [] b = tt
      level q (y ∷ ys) b = (pairs_ordered.level e x y q).1 ∙ b

-- ---- a change

module _ (n : ℕ) (es : List Edge) (h : Sorted pair_order (is_edge n) es) (c : ChangeBefore) where
  abbrev now : Change
  now = renamed es c

  stands : is_weight (weight_named es (edge_before c)) ≡ true
  stands = pair_edge_weighs n es h (edge_before c)

  -- what number 9 asks of its weights
  weighed : (is_weight now.weight && cond (eqb c.kind 3) (is_weight now.old) (eqb now.old 0)) ≡ cond (eqb c.kind 2) (eqb c.weight 0) (is_weight c.weight)
  weighed = by_test (eqb c.kind 2)
      (λ d. let u : eqb c.kind 3 ≡ false = ap (λ k. eqb k 3) (eqb-true c.kind 2 d) in rw (d, u) (by_test (eqb c.weight 0) (λ z. rw (z, stands)) (λ z. rw z)))
      (λ d. rw d (by_test (eqb c.kind 3) (λ u. rw (u, stands) (and_one (is_weight c.weight))) (λ u. rw u (and_one (is_weight c.weight)))))

  words_conserved : (i : ℕ) → words n i now ≡ words_before n i c
  unfolding words words_before
  words_conserved i = rw weighed

  -- the three kinds that number 7 lets pass, a take with the weight 0 that number 9 asks
  by_kind : {C : Type 0} (i : ℕ) → words_before n i c ≡ accept → (c.kind ≡ 1 → C) → (c.kind ≡ 2 → c.weight ≡ 0 → C) → (c.kind ≡ 3 → C) → C
  unfolding words_before
  by_kind i w f g k =
      let a = then_accept (refuse_if (not (ltb c.tail n && ltb c.head n)) 6 i) _ w in
      let b = then_accept (refuse_if (not (eqb c.kind 1 || (eqb c.kind 2 || eqb c.kind 3))) 7 i) _ a.1 in
      let d = then_accept (refuse_if (eqb c.tail c.head) 8 i) (refuse_if (not (cond (eqb c.kind 2) (eqb c.weight 0) (is_weight c.weight))) 9 i) b.1 in
      let x : (eqb c.kind 1 || (eqb c.kind 2 || eqb c.kind 3)) ≡ true = not-false _ (if_accept _ 7 i b.0) in
      let y : cond (eqb c.kind 2) (eqb c.weight 0) (is_weight c.weight) ≡ true = not-false _ (if_accept _ 9 i d.1) in
      by_test (eqb c.kind 1) (λ p. f (eqb-true c.kind 1 p))
      (λ p. by_test (eqb c.kind 2) (λ q. g (eqb-true c.kind 2 q) (eqb-true c.weight 0 (rw q at y))) (λ q. k (eqb-true c.kind 3 (rw (p, q) at x))))

  -- an update brings no edge that stands: its pair stands with its own weight alone
  own_weight : (not (eqb c.weight (weight_named es (edge_before c))) && among es (edge_before c)) ≡ false
  own_weight = by_test (among es (edge_before c))
      (λ m. let p = pair_edge_own es (sorted_distinct pairs_ordered (is_edge n) es h) (edge_before c) m in rw (m, eq-eqb c.weight (weight_named es (edge_before c)) (sym p)))
      (λ m. rw m (and_false (not (eqb c.weight (weight_named es (edge_before c)))) false (inr refl)))

  against_conserved : (i : ℕ) → words_before n i c ≡ accept → (eqb c.kind 1 && paired es (edge_before c)) ≡ false → against i es now ≡ against_before i es c
  unfolding against against_before
  against_conserved i w d = by_kind i w
      (λ k. let g : paired es (edge_before c) ≡ false = rw k at d in rw (k, pair_gone es (edge_before c) c.weight g, g))
      (λ k z. rw (k, z, among_pair_edge es (edge c.tail c.head 0)))
      (λ k. rw (k, own_weight, among_pair_edge es (edge_before c)))

  -- number 10 is not what turns it back
  item_conserved : (i : ℕ) → ((j : ℕ) → item_before n i es c ≢ refuse 10 j) → item n i es now ≡ item_before n i es c
  unfolding item item_before against_before
  item_conserved i d = ap (λ v. v ▷ against i es now) (words_conserved i)
      ∙ then_same (words_before n i c) (λ w. against_conserved i w (is_false _ (λ q. d i (accept_then w ∙ refuse_then _ _ (refuse_if_lem q)))))

  module _ (i : ℕ) (a : item_before n i es c ≡ accept) where
    -- what is accepted is turned back by no number
    judged : (j : ℕ) → item_before n i es c ≢ refuse 10 j
    judged j e = not_accept (sym e ∙ a)

    taken : Taken n es now
    taken = item_taken n i es now (item_conserved i judged ∙ a)

    parts : (words_before n i c ≡ accept) × ((eqb c.kind 1 && paired es (edge_before c)) ≡ false)
    unfolding item_before against_before
    parts =
        let z = then_accept (words_before n i c) (against_before i es c) a in
        (z.0, if_accept _ 10 i (then_accept (refuse_if (eqb c.kind 1 && paired es (edge_before c)) 10 i) _ z.1).0)

    -- the pair of an update stands, by number 11
    update_stands : c.kind ≡ 3 → paired es (edge_before c) ≡ true
    update_stands k = sym (among_pair_edge es (edge_before c)) ∙ (rw k at (taken.present (rw k)))

    edit_conserved : edit es now ≡ edit_before es c
    unfolding edit edit_before
    edit_conserved = by_kind i parts.0
        (λ k. rw k (insert_pair (edge_before c) es (rw k at parts.1)))
        (λ k z. rw (k, z) (delete_pair_edge es (edge c.tail c.head 0)))
        (λ k. rw k (update_conserved (is_edge n) (edge_before c) es h (update_stands k)))

    edit_sorted : Sorted pair_order (is_edge n) (edit_before es c)
    unfolding edit_before
    edit_sorted = by_kind i parts.0
        (λ k. rw k (insert_sorted pairs_ordered (is_edge n) (edge_before c) es h (rw k at taken.fits) (rw k at parts.1)))
        (λ k z. rw k (delete_sorted pairs_ordered (is_edge n) (edge_before c) es h))
        (λ k. rw k (reweigh_sorted (is_edge n) (edge_before c) es h (rw k at taken.fits)))

-- ---- changes

abbrev Conserved : ℕ → ℕ → List Edge → List ChangeBefore → Type 0
Conserved n i es cs = (items n i es (renamed_all es cs) ≡ items_before n i es cs)
    × (items_before n i es cs ≡ accept → (edits es (renamed_all es cs) ≡ edits_before es cs) × Sorted pair_order (is_edge n) (edits_before es cs))

items_conserved : (n i : ℕ) (es : List Edge) (cs : List ChangeBefore) → Sorted pair_order (is_edge n) es → ((j : ℕ) → items_before n i es cs ≢ refuse 10 j) → Conserved n i es cs
unfolding items items_before renamed_all
items_conserved n i es [] h d = (refl, λ a. (refl, h))
items_conserved n i es (c ∷ cs) h d =
    let later = renamed_all (edit_before es c) cs in
    let rest : item_before n i es c ≡ accept → Conserved n (suc i) (edit_before es c) cs =
    λ a. items_conserved n (suc i) (edit_before es c) cs (edit_sorted n es h c i a) (λ j e. d j (accept_then a ∙ e)) in (
      ap (λ v. v ▷ items n (suc i) (edit es (renamed es c)) later) (item_conserved n es h c i (λ j e. d j (refuse_then (item_before n i es c) _ e)))
          ∙ then_same (item_before n i es c) (λ a. ap (λ l. items n (suc i) l later) (edit_conserved n es h c i a) ∙ (rest a).0),
      λ a. (let z = then_accept (item_before n i es c) (items_before n (suc i) (edit_before es c) cs) a in
          let r = (rest z.0).1 z.1 in (ap (λ l. edits l later) (edit_conserved n es h c i z.0) ∙ r.0, r.1)),
    )

-- Item by item. In edges that keep the rules before, a pair stands once, so the weight that a renamed change names is that of the edge of its pair, and that edge
-- is what it strikes. An add whose pair is not there brings an edge that is not there, and an update brings one only in the place of its pair's. What is
-- left keeps the rules before, so that the next item finds the same.
pub batch_conserved : BatchConserved
batch_conserved n i es cs h d =
    let z = items_conserved n i es cs (rules_accept pair_order (is_edge n) es h) d in
    (z.0, λ a. let r = z.1 a in (r.0, accept_rules pair_order (is_edge n) (edits_before es cs) r.1, sorted_distinct pairs_ordered (is_edge n) (edits_before es cs) r.1))
