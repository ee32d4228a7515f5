-- Another weight for an edge of a table: its edge is struck and put in again at the place that the order gives, and of the three lists of the table only
-- the weights change. Assumes nothing.
use Rattle.property.proofs.Basics.{◌≡◌, refl, sym, ap, ◌∙◌, ◌⊎◌, ⊎_elim, true, false, ◌&&◌, ◌||◌, true≢false, Bool, List, [], ◌∷◌, map, ℕ, zero, suc, ◌<◌, ◌≤◌, min, max, arith, length, get_or, set, take, take-nil, ltb, eqb, eqb-true, eqb-false, get_or-map, length-map}
use Rattle.property.proofs.Tests.{by_test, is_false}
use Rattle.graph.specs.Edge.{Edge, edge, precedes, among, zip, edges}
use Rattle.graph.specs.Table.{is_edge, table_order, insert}
use Rattle.graph.specs.Sorted.{Order}
use Rattle.graph.specs.Sorted as order
use Rattle.graph.specs.Code.{Room, insert_at, delete_at, position}
use Rattle.graph.proofs.Tests.{both, neither}
use Rattle.graph.proofs.Sorted.{Ordered, Ahead, Sorted, before_asym, sorted_before, sorted_onward}
use Rattle.graph.proofs.Seek.{position_le, insert_position}
use Rattle.graph.proofs.Order.{table_ordered, Sound}
use Rattle.graph.proofs.Records.{tails_of, heads_of, edges_length, edges_at, edges_tails, edges_heads, edges_weights}

-- ---- any list, by index

module _ {A : Type 0} where
  -- the word after index k put to k, or the one before it, and then that one struck: as if k were struck
  pub struck_next : (d : A) (xs : List A) (k : ℕ) → suc k < length xs → delete_at (suc k) (set xs k (get_or xs (suc k) d)) ≡ delete_at k xs
  unfolding delete_at
  struck_next d [] k l = absurd (omega arith)
  struck_next d (x ∷ []) k l = absurd (omega arith)
  struck_next d (x ∷ y ∷ xs) zero l = refl
  struck_next d (x ∷ y ∷ xs) (suc k) l = ap (λ (l : List A). x ∷ l) (struck_next d (y ∷ xs) k (omega arith))

  pub struck_last : (d : A) (xs : List A) (k : ℕ) → suc k < length xs → delete_at k (set xs (suc k) (get_or xs k d)) ≡ delete_at (suc k) xs
  unfolding delete_at
  struck_last d [] k l = absurd (omega arith)
  struck_last d (x ∷ []) k l = absurd (omega arith)
  struck_last d (x ∷ y ∷ xs) zero l = refl
  struck_last d (x ∷ y ∷ xs) (suc k) l = ap (λ (l : List A). x ∷ l) (struck_last d (y ∷ xs) k (omega arith))

  pub put_back : (xs : List A) (j : ℕ) (v : A) → j < length xs → set xs j v ≡ insert_at j v (delete_at j xs)
  unfolding insert_at delete_at
  put_back [] j v l = absurd (omega arith)
  put_back (x ∷ xs) zero v l = refl
  put_back (x ∷ xs) (suc j) v l = ap (λ (l : List A). x ∷ l) (put_back xs j v (omega arith))

  take_insert : (j m : ℕ) (v : A) (xs : List A) → j ≤ m → take (suc m) (insert_at j v xs) ≡ insert_at j v (take m xs)
  unfolding insert_at
  take_insert zero m v xs l = refl
  take_insert (suc j) zero v xs l = absurd (omega arith)
  take_insert (suc j) (suc m) v [] l = refl
  take_insert (suc j) (suc m) v (x ∷ xs) l = ap (λ (l : List A). x ∷ l) (take_insert j m v xs (omega arith))

  take_delete : (i m : ℕ) (xs : List A) → i ≤ m → take m (delete_at i xs) ≡ delete_at i (take (suc m) xs)
  unfolding delete_at
  take_delete i m [] l = take-nil m
  take_delete zero m (x ∷ xs) l = refl
  take_delete (suc i) zero (x ∷ xs) l = absurd (omega arith)
  take_delete (suc i) (suc m) (x ∷ xs) l = ap (λ (l : List A). x ∷ l) (take_delete i m xs (omega arith))

  -- below a bound past both places
  moved_take : (m : ℕ) (xs : List A) (i j : ℕ) (v : A) → i < m → j < m → take m (insert_at j v (delete_at i xs)) ≡ insert_at j v (delete_at i (take m xs))
  moved_take zero xs i j v a b = absurd (omega arith)
  moved_take (suc m) xs i j v a b = take_insert j m v (delete_at i xs) (omega arith) ∙ ap (insert_at j v) (take_delete i m xs (omega arith))

  -- where all words between the two places are v, nothing moves
  stays : (d v : A) (xs : List A) (i j : ℕ) → i < length xs → j < length xs → ((k : ℕ) → min i j ≤ k → k ≤ max i j → get_or xs k d ≡ v) → insert_at j v (delete_at i xs) ≡ xs
  unfolding insert_at delete_at
  stays d v [] i j a b h = absurd (omega arith)
  stays d v (x ∷ xs) zero zero a b h = rw (h 0 (omega arith) (omega arith))
  stays d v (x ∷ []) zero (suc j) a b h = absurd (omega arith)
  stays d v (x ∷ y ∷ xs) zero (suc j) a b h =
      rw (h 0 (omega arith) (omega arith) ∙ sym (h 1 (omega arith) (omega arith))) (ap (λ (l : List A). y ∷ l) (stays d v (y ∷ xs) zero j (omega arith) (omega arith) (λ k p q. h (suc k) (omega arith) (omega arith))))
  stays d v (x ∷ xs) (suc i) zero a b h =
      rw (h 0 (omega arith) (omega arith)) (ap (λ (l : List A). v ∷ l) (stays d v xs i zero (omega arith) (omega arith) (λ k p q. h (suc k) (omega arith) (omega arith))))
  stays d v (x ∷ xs) (suc i) (suc j) a b h = ap (λ (l : List A). x ∷ l) (stays d v xs i j (omega arith) (omega arith) (λ k p q. h (suc k) (omega arith) (omega arith)))

module _ {A B : Type 0} (f : A → B) where
  map_insert : (j : ℕ) (v : A) (xs : List A) → map f (insert_at j v xs) ≡ insert_at j (f v) (map f xs)
  unfolding insert_at
  map_insert zero v xs = refl
  map_insert (suc j) v [] = refl
  map_insert (suc j) v (x ∷ xs) = ap (λ (l : List B). f x ∷ l) (map_insert j v xs)

  map_delete : (i : ℕ) (xs : List A) → map f (delete_at i xs) ≡ delete_at i (map f xs)
  unfolding delete_at
  map_delete i [] = refl
  map_delete zero (x ∷ xs) = refl
  map_delete (suc i) (x ∷ xs) = ap (λ (l : List B). f x ∷ l) (map_delete i xs)

  map_moved : (i j : ℕ) (v : A) (xs : List A) → map f (insert_at j v (delete_at i xs)) ≡ insert_at j (f v) (delete_at i (map f xs))
  map_moved i j v xs = map_insert j v (delete_at i xs) ∙ ap (insert_at j (f v)) (map_delete i xs)

-- ---- the position in a list of which one is struck

-- before the position each element comes before a, and the one at it does not; where one before it is struck it is one less
module _ {A : Type 0} (O : Order A) (d a : A) where
  position_before : (xs : List A) (k : ℕ) → k < order.position O a xs → O.before (get_or xs k d) a ≡ true
  unfolding order.position
  position_before [] k l = absurd (omega arith)
  position_before (x ∷ xs) zero l = by_test (O.before x a) (λ q. q) (λ q. absurd (omega (arith, rw q at l)))
  position_before (x ∷ xs) (suc k) l = by_test (O.before x a) (λ q. position_before xs k (omega (arith, rw q at l))) (λ q. absurd (omega (arith, rw q at l)))

  position_stop : (xs : List A) → order.position O a xs < length xs → O.before (get_or xs (order.position O a xs) d) a ≡ false
  unfolding order.position
  position_stop [] l = absurd (omega arith)
  position_stop (x ∷ xs) l = by_test (O.before x a) (λ q. rw q (position_stop xs (omega (arith, rw q at l)))) (λ q. rw q q)

  position_struck : (i : ℕ) (xs : List A) → i < order.position O a xs → suc (order.position O a (delete_at i xs)) ≡ order.position O a xs
  unfolding order.position delete_at
  position_struck i [] l = absurd (omega arith)
  position_struck zero (x ∷ xs) l = by_test (O.before x a) (λ q. rw q) (λ q. absurd (omega (arith, rw q at l)))
  position_struck (suc i) (x ∷ xs) l = by_test (O.before x a) (λ q. rw q (ap suc (position_struck i xs (omega (arith, rw q at l))))) (λ q. absurd (omega (arith, rw q at l)))

-- .. and where one at or after it is, it stays
position_kept : {A : Type 0} {O : Order A} → Ordered O → (t : A → Bool) (a : A) (i : ℕ) (xs : List A) → Sorted O t xs → order.position O a xs ≤ i → order.position O a (delete_at i xs) ≡ order.position O a xs
unfolding order.position delete_at
position_kept L t a i [] s l = refl
position_kept {O = O} L t a zero (x ∷ xs) s l = by_test (O.before x a) (λ q. absurd (omega (arith, rw q at l))) (λ q. rw q (next xs s.1 q))
  where
    next : (ys : List _) → Ahead O x ys → O.before x a ≡ false → order.position O a ys ≡ 0
    next [] h q = refl
    next (y ∷ ys) h q = rw (is_false (O.before y a) (λ b. true≢false (sym (L.transitive x y a h b) ∙ q)))
position_kept {O = O} L t a (suc i) (x ∷ xs) s l = by_test (O.before x a) (λ q. rw q (ap suc (position_kept L t a i xs s.2 (omega (arith, rw q at l))))) (λ q. rw q)

-- ---- the pair

-- an edge that comes before one edge of a pair and not before another is of that pair
between : (x o e : Edge) → o.tail ≡ e.tail → o.head ≡ e.head → precedes x o ≡ true → precedes x e ≡ false → (x.tail ≡ e.tail) × (x.head ≡ e.head)
between x o e p q h k =
    let (a, b) = neither (ltb x.tail e.tail) _ k in
    let z = both (eqb x.tail e.tail) (ltb x.head e.head || (eqb x.head e.head && ltb x.weight o.weight)) (rw (p, q, a) at h) in
    let (c, d) = neither (ltb x.head e.head) _ (rw z.0 at b) in
    let y = both (eqb x.head e.head) (ltb x.weight o.weight) (rw c at z.1) in
    (eqb-true _ _ z.0, eqb-true _ _ y.0)

-- the index j at which an edge of position p goes in once the edge at index i is struck
abbrev pub Goes : ℕ → ℕ → ℕ → Type 0
Goes i p j = ((i < p) × (suc j ≡ p)) ⊎ ((p ≤ i) × (j ≡ p))

abbrev ith : List Edge → ℕ → Edge
ith es k = get_or es k (edge 0 0 0)

module _ (n : ℕ) (es : List Edge) (s : Sound n es) (e : Edge) (i j : ℕ) (l : i < length es) (g : Goes i (position e es) j) where
  pub goes_below : j < length es
  goes_below = ⊎_elim (λ a. omega (arith, position_le table_order e es, a.0, a.1)) (λ a. omega (arith, a.0, a.1)) g

  goes_in : among (delete_at i es) e ≡ false → insert e (delete_at i es) ≡ insert_at j e (delete_at i es)
  goes_in h = sym (insert_position table_ordered e (delete_at i es) h) ∙ ap (λ (k : ℕ). insert_at k e (delete_at i es)) place
    where
      place : position e (delete_at i es) ≡ j
      place = ⊎_elim (λ a. omega (arith, position_struck table_order (edge 0 0 0) e i es a.0, a.1)) (λ a. position_kept table_ordered (is_edge n) e i es s a.0 ∙ sym a.1) g

  -- where the edge at i is of the pair of e, so are all from i to j: any other of them comes after it and before e, or the other way round
  pair_at : (ith es i).tail ≡ e.tail → (ith es i).head ≡ e.head → (k : ℕ) → min i j ≤ k → k ≤ max i j → ((ith es k).tail ≡ e.tail) × ((ith es k).head ≡ e.head)
  pair_at p q k a b = by_test (eqb k i) (λ z. rw (eqb-true k i z) (p, q)) (λ z. ⊎_elim (up (eqb-false k i z)) (down (eqb-false k i z)) g)
    where
      before : (x y : ℕ) → x < y → y < length es → precedes (ith es x) (ith es y) ≡ true
      before = sorted_before table_ordered (is_edge n) (edge 0 0 0) es s

      up : (k ≡ i → ⊥) → (i < position e es) × (suc j ≡ position e es) → ((ith es k).tail ≡ e.tail) × ((ith es k).head ≡ e.head)
      up z (x, y) =
          let o = position_le table_order e es in
          let f = before_asym table_ordered (ith es i) (ith es k) (before i k (omega arith) (omega arith)) in
          let (u, v) = between (ith es k) e (ith es i) (sym p) (sym q) (position_before table_order (edge 0 0 0) e es k (omega arith)) f in
          (u ∙ p, v ∙ q)

      down : (k ≡ i → ⊥) → (position e es ≤ i) × (j ≡ position e es) → ((ith es k).tail ≡ e.tail) × ((ith es k).head ≡ e.head)
      down z (x, y) =
          let f = position_stop table_order (edge 0 0 0) e es (omega arith) in
          between (ith es k) (ith es i) e p q (before k i (omega arith) (omega arith)) (sorted_onward table_ordered (is_edge n) (edge 0 0 0) es s e (position e es) (omega arith) f k (omega arith) (omega arith))

  -- what all from i to j have in common stays where it is
  column_stays : (f : Edge → ℕ) → ((k : ℕ) → min i j ≤ k → k ≤ max i j → f (ith es k) ≡ f e) → map f (insert_at j e (delete_at i es)) ≡ map f es
  column_stays f h =
      let z = length-map es f in
      let b = goes_below in
      map_moved f i j e es ∙ stays (f (edge 0 0 0)) (f e) (map f es) i j (omega arith) (omega arith) (λ k x y. get_or-map f es k (edge 0 0 0) ∙ h k x y)

-- ---- three lists of which the weights change

columns_back : (fs : List Edge) → zip (tails_of fs) (heads_of fs) (map (λ e. e.weight) fs) ≡ fs
unfolding zip
columns_back [] = refl
columns_back (e ∷ fs) = ap (λ (l : List Edge). e ∷ l) (columns_back fs)

edges_are : (m : ℕ) (ts hs ws : List ℕ) (fs : List Edge) → take m ts ≡ tails_of fs → take m hs ≡ heads_of fs → take m ws ≡ map (λ e. e.weight) fs → edges ts hs ws m ≡ fs
unfolding edges
edges_are m ts hs ws fs x y z = rw (x, y, z) (columns_back fs)

-- The edge goes in at index j of the list from which the one at i is struck. In each column that is a move of one word from i to j over those between; and
-- since all of them are of one pair, the columns of tails and heads are as before. So the move of the weights alone leaves the table of the update.
pub retuned : (n m : ℕ) (ts hs ws : List ℕ) → Room m ts hs ws → Sound n (edges ts hs ws m) → (i w : ℕ) → i < m → (j : ℕ)
    → Goes i (position (edge (get_or ts i 0) (get_or hs i 0) w) (edges ts hs ws m)) j
    → among (delete_at i (edges ts hs ws m)) (edge (get_or ts i 0) (get_or hs i 0) w) ≡ false
    → edges ts hs (insert_at j w (delete_at i ws)) m ≡ insert (edge (get_or ts i 0) (get_or hs i 0) w) (delete_at i (edges ts hs ws m))
retuned n m ts hs ws r s i w l j g h =
    let es = edges ts hs ws m in
    let e = edge (get_or ts i 0) (get_or hs i 0) w in
    let fs = insert_at j e (delete_at i es) in
    let long = edges_length ts hs ws m r in
    let here = edges_at ts hs ws m r i l in
    let o : i < length es = omega arith in
    let q = goes_below n es s e i j o g in
    let pair = pair_at n es s e i j o g (rw here refl) (rw here refl) in
    edges_are m ts hs (insert_at j w (delete_at i ws)) fs
    (sym (edges_tails ts hs ws m r) ∙ sym (column_stays n es s e i j o g (λ x. x.tail) (λ k a b. (pair k a b).0)))
    (sym (edges_heads ts hs ws m r) ∙ sym (column_stays n es s e i j o g (λ x. x.head) (λ k a b. (pair k a b).1)))
    (moved_take m ws i j w l (omega arith) ∙ ap (λ (ys : List ℕ). insert_at j w (delete_at i ys)) (sym (edges_weights ts hs ws m r)) ∙ sym (map_moved (λ x. x.weight) i j e es))
    ∙ sym (goes_in n es s e i j o g h)
