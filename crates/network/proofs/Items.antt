-- The table through a batch: what an accepted change says of its words and of the edges, that accepted changes keep the table's rules and the limit of
-- 2,048 edges, and that what a batch writes into its lists is read back as the new edges. Assumes nothing.
--
--   Taken n es c == what numbers 6 to 12 leave of a change c that is accepted against the edges es
use Rattle.property.proofs.Basics.{◌≡◌, sym, ap, ◌∙◌, inl, inr, Bool, true, false, not, ◌&&◌, ◌||◌, cond, false≢true, List, [], ◌∷◌, map, append_assoc, ℕ, suc, ◌-◌, ◌≤◌, ◌<◌, arith, length, drop, replicate, length-append, length-drop, length-map, length-replicate, ltb, eqb, ltb-true, le-ltb, eqb-true, not-false}
use Rattle.property.proofs.Tests.{by_test}
use Rattle.graph.specs.Limits.{max_edges}
use Rattle.graph.specs.Refusal.{accept, refuse, ◌▷◌, refuse_if, over}
use Rattle.graph.specs.Edge.{Edge, same, exists, among}
use Rattle.graph.specs.Table.{Columns, edges_of, is_weight, is_edge, table_order, short_table, table, insert, delete, update}
use Rattle.graph.specs.Sorted as order
use Rattle.graph.proofs.Tests.{both, and_true, and_false, or_right}
use Rattle.graph.proofs.Records.{room_less, edges_length, edges_back}
use Rattle.graph.proofs.Judging.{lengths_accept, table_accept}
use Rattle.graph.proofs.Verdicts.{then_accept, accept_then, if_accept, accept_if}
use Rattle.graph.proofs.Edges.{same_own}
use Rattle.graph.proofs.Sorted.{length_insert, insert_sorted, delete_sorted}
use Rattle.graph.proofs.Order.{table_ordered, Sound, rules_accept, accept_rules}
use Rattle.graph.proofs.Keeps.{among_delete}
use Rattle.network.specs.Change.{Change, brought, struck, inserts, deletes, updates, comes, edit, edits, words, against, item, items}
use Rattle.network.specs.Batch.{column, rewritten}

pub refuse_if_lem : {b : Bool} {k i : ℕ} → b ≡ true → refuse_if b k i ≡ refuse k i
unfolding refuse_if
refuse_if_lem q = rw q

-- where three tests one after the other accept, each is false, wherever it stands
chain_accept : (a b d : Bool) (j k l i : ℕ) → (refuse_if a j i ▷ refuse_if b k i ▷ refuse_if d l i) ≡ accept → (a ≡ false) × (b ≡ false) × (d ≡ false)
chain_accept a b d j k l i h =
    let f = then_accept (refuse_if a j i) _ h in
    let g = then_accept (refuse_if b k i) (refuse_if d l i) f.1 in
    (if_accept _ _ _ f.0, if_accept _ _ _ g.0, if_accept _ _ _ g.1)

-- ---- an accepted change

pub record Taken (n : ℕ) (es : List Edge) (c : Change) : Type 0 where
  -- numbers 6, 8 and 9
  pub fits : is_edge n (brought c) ≡ true
  -- 10
  pub absent : comes c ≡ true → among es (brought c) ≡ false
  -- 11
  pub present : inserts c ≡ false → among es (struck c) ≡ true
  -- 12
  pub room : inserts c ≡ true → length es < max_edges

pub item_taken : (n i : ℕ) (es : List Edge) (c : Change) → item n i es c ≡ accept → Taken n es c
unfolding item words against
item_taken n i es c h =
    let o = then_accept (words n i c) (against i es c) h in
    let a = then_accept (refuse_if (not (ltb c.tail n && ltb c.head n)) 6 i) _ o.0 in
    let b = then_accept (refuse_if (not (inserts c || (deletes c || updates c))) 7 i) _ a.1 in
    let d = then_accept (refuse_if (eqb c.tail c.head) 8 i) (refuse_if (not (is_weight c.weight && cond (updates c) (is_weight c.old) (eqb c.old 0))) 9 i) b.1 in
    let f = chain_accept _ _ _ _ _ _ i o.1 in
    let u = f.0 in
    let v = f.1 in
    let ten : (comes c && among es (brought c)) ≡ false = search in
    let eleven : (not (inserts c) && not (among es (struck c))) ≡ false = search in
    let z = both (ltb c.tail n) (ltb c.head n) (not-false _ (if_accept _ _ _ a.0)) in
    let x = both (is_weight c.weight) _ (not-false _ (if_accept _ _ _ d.1)) in
    record {
      fits = and_true z.0 (and_true z.1 (and_true (ap not (if_accept _ _ _ d.0)) x.0));
      absent = λ p. rw p at ten;
      present = λ p. not-false _ (rw p at eleven);
      room = λ p. ltb-true _ _ (not-false _ (rw p at f.2));
    }

-- ---- what it does, by its kind

-- a change that updates is no insert, and neither is one that deletes
pub update_kind : (c : Change) → updates c ≡ true → inserts c ≡ false
update_kind c h = ap (λ k. eqb k 1) (eqb-true c.kind 3 h)

pub delete_kind : (c : Change) → deletes c ≡ true → (inserts c ≡ false) × (updates c ≡ false)
delete_kind c h = let k = eqb-true c.kind 2 h in (ap (λ k. eqb k 1) k, ap (λ k. eqb k 3) k)

module _ (es : List Edge) (c : Change) where
  pub edit_insert : inserts c ≡ true → edit es c ≡ insert (brought c) es
  unfolding edit
  edit_insert p = rw p

  pub edit_update : updates c ≡ true → edit es c ≡ update (struck c) (brought c) es
  unfolding edit
  edit_update p = rw (update_kind c p, p)

  pub edit_delete : inserts c ≡ false → updates c ≡ false → edit es c ≡ delete (struck c) es
  unfolding edit
  edit_delete p q = rw (p, q)

-- ---- the rules through changes

-- an edge that is there and is struck leaves one edge less
length_struck : (e : Edge) (es : List Edge) → among es e ≡ true → suc (length (delete e es)) ≡ length es
unfolding order.delete exists
length_struck e [] h = absurd (false≢true h)
length_struck e (x ∷ es) h = by_test (same e x) (λ q. rw q) (λ q. rw q (ap suc (length_struck e es (rw q at h))))

-- an update by the same weight names one edge twice
pub same_struck : (c : Change) → updates c ≡ true → c.old ≡ c.weight → struck c ≡ brought c
same_struck c u q = rw (u, q)

module _ (n : ℕ) (es : List Edge) (c : Change) (t : Taken n es c) (s : Sound n es) where
  -- What an update leaves is not there once its old edge is struck: it was not there before, by number 10, or it is that edge.
  pub update_clears : updates c ≡ true → among (delete (struck c) es) (brought c) ≡ false
  update_clears u = among_delete n es s (struck c) (brought c) ∙ by_test (eqb c.weight c.old)
      (λ q. and_false (among es (brought c)) _ (inr (ap (λ (e : Edge). not (same (brought c) e)) (same_struck c u (sym (eqb-true _ _ q))) ∙ ap not (same_own (brought c)))))
      (λ q. and_false (among es (brought c)) _ (inl (t.absent (or_right (inserts c) (and_true u (ap not q))))))

  -- An accepted insert names an edge that is not there: put in at its place it keeps the order. What an update leaves is an edge too, and is not there
  -- once its old edge is struck. A delete strikes an edge, which keeps the order.
  pub edit_sound : Sound n (edit es c)
  edit_sound =
      let less = delete_sorted table_ordered (is_edge n) (struck c) es s in
      by_test (inserts c)
      (λ p. rw (edit_insert es c p) (insert_sorted table_ordered (is_edge n) (brought c) es s t.fits (t.absent (rw p))))
      (λ p. by_test (updates c)
      (λ q. rw (edit_update es c q) (insert_sorted table_ordered (is_edge n) (brought c) (delete (struck c) es) less t.fits (update_clears q)))
      (λ q. rw (edit_delete es c p q) less))

  -- an insert adds one edge, by number 12 to fewer than 2,048; an update leaves as many as there were, a delete one less
  pub edit_length : length es ≤ max_edges → length (edit es c) ≤ max_edges
  edit_length l = by_test (inserts c)
      (λ p. let q = t.room p in let r = length_insert table_order (brought c) es in rw (edit_insert es c p) (omega arith))
      (λ p. let k = length_struck (struck c) es (t.present p) in by_test (updates c)
      (λ q. let r = length_insert table_order (brought c) (delete (struck c) es) in rw (edit_update es c q) (omega arith))
      (λ q. rw (edit_delete es c p q) (omega arith)))

pub item_good : (n i : ℕ) (es : List Edge) (c : Change) → item n i es c ≡ accept → Sound n es → length es ≤ max_edges
    → Sound n (edit es c) × (length (edit es c) ≤ max_edges)
item_good n i es c h s l = let t = item_taken n i es c h in (edit_sound n es c t s, edit_length n es c t s l)

-- item after item
pub items_good : (n i : ℕ) (es : List Edge) (cs : List Change) → items n i es cs ≡ accept → Sound n es → length es ≤ max_edges
    → Sound n (edits es cs) × (length (edits es cs) ≤ max_edges)
unfolding items
items_good n i es [] h s l = (s, l)
items_good n i es (c ∷ cs) h s l =
    let z = then_accept (item n i es c) (items n (suc i) (edit es c) cs) h in
    let y = item_good n i es c z.0 s l in
    items_good n (suc i) (edit es c) cs z.1 y.0 y.1

-- ---- what numbers 2 and 4 say

pub table_sound : (n : ℕ) (cs : Columns) (m : ℕ) → table n cs m ≡ accept → (m ≤ max_edges) × Sound n (edges_of cs m)
table_sound n cs m h = let z = table_accept n cs m h in (z.0, rules_accept n (edges_of cs m) z.1)

pub accept_table : (n : ℕ) (cs : Columns) (m : ℕ) → m ≤ max_edges → Sound n (edges_of cs m) → table n cs m ≡ accept
accept_table n cs m h s = accept_then (accept_if 4 0 (le-ltb _ _ h)) ∙ accept_rules n (edges_of cs m) s

-- ---- as many edges as the count says

pub table_count : (cs : Columns) (m : ℕ) → short_table cs ≡ accept → m ≤ max_edges → length (edges_of cs m) ≡ m
table_count cs m h l =
    edges_length cs.tails cs.heads cs.weights m (room_less l (lengths_accept cs.tails cs.heads cs.weights h))

-- ---- the table after a batch

pub length_over : {A : Type 0} (new old : List A) → length new ≤ length old → length (over new old) ≡ length old
length_over new old h = length-append new (drop (length new) old) ∙ (let e = length-drop (length new) old in omega arith)

pub rewritten_edges : (fs : List Edge) (cs : Columns) → edges_of (rewritten fs cs) (length fs) ≡ fs
rewritten_edges fs cs =
    rw (append_assoc (map (λ x. x.tail) fs), append_assoc (map (λ x. x.head) fs), append_assoc (map (λ x. x.weight) fs)) (edges_back fs _ _ _)

module _ (fs : List Edge) (few : length fs ≤ max_edges) where
  pub length_column : (f : Edge → ℕ) → length (column f fs) ≡ max_edges
  length_column f = length-append (map f fs) (replicate (max_edges - length fs) 0)
      ∙ (let p = length-map fs f in let q = length-replicate {A = ℕ} (max_edges - length fs) 0 in omega arith)

  column_kept : (f : Edge → ℕ) (xs : List ℕ) → max_edges ≤ length xs → length (over (column f fs) xs) ≡ length xs
  column_kept f xs h = length_over (column f fs) xs (rw (length_column f) h)

  -- its lists are as long as before
  pub rewritten_long : (cs : Columns) → short_table cs ≡ accept → short_table (rewritten fs cs) ≡ accept
  rewritten_long cs h =
      let z = lengths_accept cs.tails cs.heads cs.weights h in
      rw (column_kept (λ e. e.tail) cs.tails z.tails, column_kept (λ e. e.head) cs.heads z.heads, column_kept (λ e. e.weight) cs.weights z.weights) h
