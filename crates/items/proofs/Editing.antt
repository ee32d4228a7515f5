-- The changes of a batch, judged and applied one by one: one change's refusals, what is left of a chain of changes after one. Assumes nothing.
use Rattle.property.proofs.Basics.{◌≡◌, sym, ap, ◌∙◌, ◌⊎◌, inl, inr, true, false, not, ◌&&◌, ◌||◌, cond, List, [], ◌∷◌, ℕ, ◌+◌, ◌<◌, ◌≤◌, add-one, arith, length, ltb, eqb, lt-ltb, le-ltb, eq-eqb, ne_eqb, eqb-true, not-false}
use mathlib.Core.Bool.{and-false, or-false}
use Rattle.std.specs.Prelude.{Some, None, Result, Ok, Err}
use Rattle.graph.specs.declared.refusal.Refusal.{Refusal}
use Rattle.graph.specs.Limits.{max_edges}
use Rattle.graph.specs.Refusal.{Verdict, accept, refuse, ◌▷◌, refuse_if}
use Rattle.graph.specs.Edge.{Edge, edge, edges, among}
use Rattle.graph.specs.Table.{is_weight, table_order}
use Rattle.graph.specs.Code.{number, place, Room, edge_at, find, told}
use Rattle.graph.proofs.Verdicts.{then_accept, if_accept}
use Rattle.graph.proofs.Order.{rules_accept, accept_rules}
use Rattle.graph.proofs.Records.{room_less, edges_length, edges_at}
use Rattle.graph.proofs.Tests.{both}
use Rattle.graph.proofs.Edges.{same_eq}
use Rattle.graph.proofs.Seek.{find_below, found_has, found_same, absent_has}
use Rattle.network.specs.Change.{Change, brought, struck, inserts, comes, edit, edits, item, items, words, against}
use Rattle.items.specs.Code.{change, verdict, Leaves}
use Rattle.calls.specs.Code.{Tabled}
use Rattle.network.proofs.Items.{item_good}

-- ---- a change's own words

module _ (n i k t h w o : ℕ) where
  pub words_outside : (n ≤ t) ⊎ (n ≤ h) → refuse 6 i ≡ words n i (change k t h w o)
  unfolding words refuse_if ◌▷◌
  words_outside (inl a) = rw (le-ltb t n a)
  words_outside (inr a) = rw (le-ltb h n a, and-false)

  module _ (a : t < n) (b : h < n) where
    pub words_unkind : (k ≡ 1 → ⊥) → (k ≡ 2 → ⊥) → (k ≡ 3 → ⊥) → refuse 7 i ≡ words n i (change k t h w o)
    unfolding words refuse_if ◌▷◌
    words_unkind c d e = rw (lt-ltb t n a, lt-ltb h n b, ne_eqb k 1 c, ne_eqb k 2 d, ne_eqb k 3 e)

    module _ (c : (eqb k 1 || (eqb k 2 || eqb k 3)) ≡ true) where
      pub words_loop : t ≡ h → refuse 8 i ≡ words n i (change k t h w o)
      unfolding words refuse_if ◌▷◌
      words_loop d = rw (lt-ltb t n a, lt-ltb h n b, c, eq-eqb t h d)

      pub words_rest : (t ≡ h → ⊥) → refuse_if (not (is_weight w && cond (eqb k 3) (is_weight o) (eqb o 0))) 9 i ≡ words n i (change k t h w o)
      unfolding words refuse_if ◌▷◌
      words_rest d = rw (lt-ltb t n a, lt-ltb h n b, c, ne_eqb t h d)

  -- where its words are good, a change that is not an update has the old weight 0; where it is no insert either, it is a delete
  module _ (q : k ≡ 3 → ⊥) (e : words n i (change k t h w o) ≡ accept) where
    plain : ((eqb k 1 || (eqb k 2 || false)) ≡ true) × (o ≡ 0)
    unfolding words
    plain =
        let a = then_accept (refuse_if (not (ltb t n && ltb h n)) 6 i) _ e in
        let b = then_accept (refuse_if (not (eqb k 1 || (eqb k 2 || eqb k 3))) 7 i) _ a.1 in
        let d = then_accept (refuse_if (eqb t h) 8 i) _ b.1 in
        let x : (eqb k 1 || (eqb k 2 || eqb k 3)) ≡ true = not-false _ (if_accept _ _ _ b.0) in
        let y = both (is_weight w) (cond (eqb k 3) (is_weight o) (eqb o 0)) (not-false _ (if_accept _ _ _ d.1)) in
        (rw (ne_eqb k 3 q) at x, eqb-true o 0 (rw (ne_eqb k 3 q) at y.1))

    pub words_insert : k ≡ 1 → change k t h w o ≡ change 1 t h w 0
    words_insert p = rw (p, plain.1)

    pub words_delete : (k ≡ 1 → ⊥) → change k t h w o ≡ change 2 t h w 0
    words_delete p = let u : eqb k 2 ≡ true = sym (or-false (eqb k 2)) ∙ (rw (ne_eqb k 1 p) at plain.0) in rw (eqb-true k 2 u, plain.1)

-- ---- a change against the edges

module _ (es : List Edge) (t h w i : ℕ) where
  pub insert_present : (j : ℕ) → find (edge t h w) es ≡ Some j → refuse 10 i ≡ against i es (change 1 t h w 0)
  unfolding against refuse_if ◌▷◌
  insert_present j e = rw (found_has table_order (edge t h w) es j e)

  pub insert_full : find (edge t h w) es ≡ None → max_edges ≤ length es → refuse 12 i ≡ against i es (change 1 t h w 0)
  unfolding against refuse_if ◌▷◌
  insert_full e l = rw (absent_has table_order (edge t h w) es e, le-ltb (length es) max_edges l)

  pub insert_fine : find (edge t h w) es ≡ None → length es < max_edges → accept ≡ against i es (change 1 t h w 0)
  unfolding against refuse_if ◌▷◌
  insert_fine e l = rw (absent_has table_order (edge t h w) es e, lt-ltb (length es) max_edges l)

  pub update_taken : (o : ℕ) → (not (eqb w o) && among es (edge t h w)) ≡ true → refuse 10 i ≡ against i es (change 3 t h w o)
  unfolding against refuse_if ◌▷◌
  update_taken o e = rw e

-- a delete, and an update that brings no edge that is there, ask for the edge that they strike
module _ (es : List Edge) (c : Change) (i : ℕ) (z : inserts c ≡ false) (y : (comes c && among es (brought c)) ≡ false) where
  pub against_absent : find (struck c) es ≡ None → refuse 11 i ≡ against i es c
  unfolding against refuse_if ◌▷◌
  against_absent e = rw (y, z, absent_has table_order (struck c) es e)

  pub against_found : (j : ℕ) → find (struck c) es ≡ Some j → accept ≡ against i es c
  unfolding against refuse_if ◌▷◌
  against_found j e = rw (y, z, found_has table_order (struck c) es j e)

-- an edge that is found stands below the count
pub found_below : (n m : ℕ) (ts hs ws : List ℕ) → Tabled n m ts hs ws → (e : Edge) (i : ℕ) → find e (edges ts hs ws m) ≡ Some i → i < m
found_below n m ts hs ws t e i f =
    let q = edges_length ts hs ws m (room_less t.few t.room) in
    let l = find_below _ e (edges ts hs ws m) i f in
    omega arith

-- .. and has the words that were looked for
pub found_words : (n m : ℕ) (ts hs ws : List ℕ) → Tabled n m ts hs ws → (t h o i : ℕ) → find (edge t h o) (edges ts hs ws m) ≡ Some i → edge_at ts hs ws i ≡ edge t h o
found_words n m ts hs ws u t h o i f =
    let r = room_less u.few u.room in
    sym (edges_at ts hs ws m r i (found_below n m ts hs ws u (edge t h o) i f)) ∙ sym (same_eq _ _ (found_same table_order (edge t h o) (edges ts hs ws m) i f (edge 0 0 0)))

-- ---- what an answer tells of the lists

pub leaves_refused : (n : ℕ) (e : Refusal) (r : Result ℕ Refusal) (ts hs ws : List ℕ) (fs : List Edge) {v : Verdict} → r ≡ Err e → refuse (number e) (place e) ≡ v → (verdict r ≡ v) × Leaves n r ts hs ws fs
unfolding verdict
leaves_refused n e r ts hs ws fs q h = (
  ap verdict q ∙ h,
  record {
    table = λ m p. let z : ◌≡◌ {A = ℕ} 0 1 = cc in absurd (omega arith);
    edges = λ m p. let z : ◌≡◌ {A = ℕ} 0 1 = cc in absurd (omega arith);
  },
)

pub leaves_count : (n m : ℕ) (ts hs ws : List ℕ) (fs : List Edge) {v : Verdict} → Tabled n m ts hs ws → edges ts hs ws m ≡ fs → accept ≡ v → (verdict (Ok m) ≡ v) × Leaves n (Ok m) ts hs ws fs
unfolding verdict
leaves_count n m ts hs ws fs t e a = (
  a,
  record {
    table = λ k q. let z : m ≡ k = cc in rw z at t;
    edges = λ k q. let z : m ≡ k = cc in rw z at e;
  },
)

-- ---- a change as a whole

pub item_words : (n i : ℕ) (es : List Edge) (c : Change) (e : Refusal) → told (Err e) ≡ words n i c → refuse (number e) (place e) ≡ item n i es c
unfolding item ◌▷◌ told
item_words n i es c e h = ap (λ v. v ▷ against i es c) h

pub item_against : (n i : ℕ) (es : List Edge) (c : Change) {v : Verdict} → words n i c ≡ accept → v ≡ against i es c → v ≡ item n i es c
unfolding item ◌▷◌
item_against n i es c a e = rw a e

-- a change that is another by its words, as by the kind that a branch takes it for
pub change_kind : {k j : ℕ} (t h w o : ℕ) → k ≡ j → change k t h w o ≡ change j t h w o
change_kind t h w o e = rw e

pub words_as : (n i : ℕ) (c d : Change) → c ≡ d → words n i c ≡ accept → words n i d ≡ accept
words_as n i c d q a = rw q at a

pub item_as : (n i : ℕ) (es : List Edge) (c d : Change) → c ≡ d → {v : Verdict} {r : Result ℕ Refusal} {ts hs ws : List ℕ} → words n i c ≡ accept
    → (v ≡ against i es d) × Leaves n r ts hs ws (edit es d) → (v ≡ item n i es c) × Leaves n r ts hs ws (edit es c)
item_as n i es c d q a (e, l) = (item_against n i es c a (rw q e), rw q l)

-- the table after an accepted change
pub item_leaves : (n i m : ℕ) (ts hs ws : List ℕ) (c : Change) → Tabled n m ts hs ws → words n i c ≡ accept → accept ≡ against i (edges ts hs ws m) c
    → (m' : ℕ) (ts' hs' ws' : List ℕ) → m' ≤ max_edges → Room max_edges ts' hs' ws' → edges ts' hs' ws' m' ≡ edit (edges ts hs ws m) c
    → (verdict (Ok m') ≡ against i (edges ts hs ws m) c) × Leaves n (Ok m') ts' hs' ws' (edit (edges ts hs ws m) c)
item_leaves n i m ts hs ws c t a b m' ts' hs' ws' l r e =
    let few : m ≤ max_edges = t.few in
    let q = edges_length ts hs ws m (room_less few t.room) in
    let z = item_good n i (edges ts hs ws m) c (sym (item_against n i (edges ts hs ws m) c a b)) (rules_accept n _ t.rules) (omega arith) in
    leaves_count n m' ts' hs' ws' _ (record { few = l; room = r; rules = rw e (accept_rules n _ z.0) }) e b

-- ---- a chain of changes from one on

module _ (n k : ℕ) (es : List Edge) (c : Change) (cs ds : List Change) (e : cs ≡ c ∷ ds) {v : Verdict} (h : items n k es cs ≡ v) where
  pub items_more : (m : ℕ) → verdict (Ok m) ≡ item n k es c → (fs : List Edge) → fs ≡ edit es c → items n (k + 1) fs ds ≡ v
  unfolding items ◌▷◌ verdict
  items_more m a fs f = let z : accept ≡ item n k es c = a in rw (add-one, f) (rw (e, ← z) at h)

  pub items_stop : (d : Refusal) → verdict (Err d) ≡ item n k es c → refuse (number d) (place d) ≡ v
  unfolding items ◌▷◌ verdict
  items_stop d a = let z : refuse (number d) (place d) ≡ item n k es c = a in rw (e, ← z) at h

pub items_none : (n k : ℕ) (es : List Edge) (cs : List Change) {v : Verdict} → cs ≡ [] → items n k es cs ≡ v → accept ≡ v
unfolding items
items_none n k es cs e h = rw e at h

pub edits_more : (es fs : List Edge) (c : Change) (cs ds : List Change) {gs : List Edge} → cs ≡ c ∷ ds → fs ≡ edit es c → edits es cs ≡ gs → edits fs ds ≡ gs
edits_more es fs c cs ds e f h = rw f (rw e at h)

pub edits_none : (es : List Edge) (cs : List Change) {gs : List Edge} → cs ≡ [] → edits es cs ≡ gs → es ≡ gs
edits_none es cs e h = rw e at h
