-- Some edges of a table, in table order, are a table: they keep the rules; which edges a table holds after one is put in or struck, and that one that
-- is struck and put in again stands where it stood. Assumes nothing.
use Rattle.property.proofs.Basics.{◌≡◌, refl, sym, ap, ◌∙◌, ⊎_elim, Bool, true, false, not, ◌&&◌, ◌||◌, true≢false, List, [], ◌∷◌, Memᴰ, Memᴰ-head, Memᴰ-cases_cons, Memᴰ-not_nil, ℕ}
use Rattle.property.proofs.Tests.{by_test}
use Rattle.graph.specs.Edge.{Edge, same, keep_if, keep, exists, among}
use Rattle.graph.specs.Table.{is_edge, table_order, insert, delete, update}
use Rattle.graph.specs.Sorted.{Order}
use Rattle.graph.specs.Sorted as order
use Rattle.graph.proofs.Edges.{keep_in, same_own, same_eq}
use Rattle.graph.proofs.Sorted.{Ordered, Ahead, Sorted, before_asym, before_absent, exists_insert}
use Rattle.graph.proofs.Order.{table_ordered, Sound}

-- ---- in any order

-- what comes before the first of a sorted list comes before each
pub ahead_mem : {A : Type 0} {O : Order A} → Ordered O → (t : A → Bool) (p : A) (xs : List A) → Ahead O p xs → Sorted O t xs
    → (x : A) → Memᴰ x xs → O.before p x ≡ true
ahead_mem L t p [] b h x m = absurd (Memᴰ-not_nil m)
ahead_mem L t p (y ∷ ys) b h x m = ⊎_elim (λ q. rw q b) (λ k. L.transitive p y x b (ahead_mem L t y ys h.1 h.2 x k)) (Memᴰ-cases_cons m)

mem_ahead : {A : Type 0} (O : Order A) (p : A) (xs : List A) → ((x : A) → Memᴰ x xs → O.before p x ≡ true) → Ahead O p xs
mem_ahead O p [] h = tt
mem_ahead O p (x ∷ xs) h = h x (Memᴰ-head refl)

-- ---- a table

pub keep_sound : (f : Edge → Bool) (n : ℕ) (es : List Edge) → Sound n es → Sound n (keep f es)
unfolding keep keep_if
keep_sound f n [] h = tt
keep_sound f n (e ∷ es) h = by_test (f e)
    (λ q. rw q (h.0, mem_ahead table_order e (keep f es) (λ x m. ahead_mem table_ordered (is_edge n) e es h.1 h.2 x (keep_in f es x m).0), keep_sound f n es h.2))
    (λ q. rw q (keep_sound f n es h.2))

-- ---- one edge more and one edge less

pub among_insert : (e x : Edge) (es : List Edge) → among (insert e es) x ≡ (same x e || among es x)
among_insert e x es = exists_insert table_order (same x) e es

-- an edge that is struck is gone, and no other
pub among_delete : (n : ℕ) (es : List Edge) → Sound n es → (e x : Edge) → among (delete e es) x ≡ (among es x && not (same x e))
unfolding order.delete exists
among_delete n [] h e x = refl
among_delete n (y ∷ es) h e x = by_test (same e y)
    (λ q. let p = same_eq e y q in rw (q, p) (by_test (same x y) (λ z. rw (z, ap (among es) (same_eq x y z), before_absent table_ordered (is_edge n) y es h.1 h.2)) (λ z. rw z (and_right (among es x)))))
    (λ q. rw (q, among_delete n es h.2 e x) (by_test (same x y) (λ z. rw (z, ap (λ (o : Edge). same o e) (same_eq x y z) ∙ table_ordered.symmetric y e ∙ q)) (λ z. rw z)))
  where
    and_right : (b : Bool) → b ≡ (b && true)
    and_right true = refl
    and_right false = refl

pub update_own : (n : ℕ) (es : List Edge) → Sound n es → (e : Edge) → Memᴰ e es → update e e es ≡ es
unfolding order.insert order.delete
update_own n [] h e m = absurd (Memᴰ-not_nil m)
update_own n (x ∷ es) h e m = by_test (same e x)
    (λ q. let p = same_eq e x q in rw (q, p) (first es h.1))
    (λ q. let k = ⊎_elim (λ p. absurd (true≢false (sym (same_own e) ∙ ap (same e) p ∙ q))) (λ k. k) (Memᴰ-cases_cons m) in
    rw (q, before_asym table_ordered x e (ahead_mem table_ordered (is_edge n) x es h.1 h.2 e k)) (ap (λ (l : List Edge). x ∷ l) (update_own n es h.2 e k)))
  where
    first : (ys : List Edge) → Ahead table_order x ys → insert x ys ≡ x ∷ ys
    first [] b = refl
    first (y ∷ ys) b = rw b
