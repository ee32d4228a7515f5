-- The rows of one side, which lie one after the other in a list: a row of what is written is the words of its run; and what an opening and
-- a batch write. Assumes nothing.
--
--   RowsBest n ls es xs   == each word of the rows in xs is the best value, on the edges es, from the row's landmark
use Rattle.property.proofs.Basics.{◌≡◌, refl, sym, ap, ◌∙◌, not, false, true, List, [], ◌∷◌, ◌++◌, map, append_assoc, Memᴰ, Memᴰ-head, Memᴰ-tail, ℕ, zero, suc, ◌+◌, ◌*◌, ◌/◌, ◌%◌, ◌≤◌, ◌<◌, zero-mul, suc-mul, div-lt_iff_lt-mul, arith, length, get_or, drop, replicate, length-append, length-set, length-replicate, take_at, drop-append-add, ltb, eqb, ltb-true, ltb-false, not-false}
use Rattle.property.specs.Property.{properties}
use Rattle.property.specs.Laws.{Laws}
use Rattle.property.proofs.Instances.{property_laws}
use Rattle.frontier.specs.Waiting.{any_of}
use Rattle.graph.specs.Limits.{max_landmarks}
use Rattle.graph.specs.Refusal.{accept, over}
use Rattle.graph.specs.Edge.{Edge, range}
use Rattle.graph.specs.Route.{Best}
use Rattle.graph.proofs.Tests.{both, neither}
use Rattle.graph.proofs.Lists.{length_range, range_below, length_table, table_at}
use Rattle.graph.proofs.Verdicts.{if_accept}
use Rattle.graph.proofs.Order.{Within}
use Rattle.run.specs.Run.{State, word}
use Rattle.run.specs.Start.{opened}
use Rattle.affected.specs.Prepared.{cleared, prepared}
use Rattle.theory.proofs.Settle.{settle_sized}
use Rattle.theory.proofs.Value.{best_fits, opened_best}
use Rattle.affected.proofs.Batch.{batch_best as row-best, unaffected}
use Rattle.network.specs.Network.{Rows, row_count, short_rows, is_in, are_landmarks, landmarks, row, property_of, landmark_of, rows_of, flat, unsettled}
use Rattle.network.specs.Open.{open_row, open_rows}
use Rattle.network.specs.Batch.{batch_row, batch_rows}
use Rattle.network.specs.History.{Unworse}
use Rattle.network.proofs.Items.{length_over}
use Rattle.network.proofs.Ends.{open_row_ends, batch_row_ends}

-- ---- rows in a list

-- f r is the state in which the run of row r ends
module _ (n : ℕ) (f : ℕ → State) (sized : (r : ℕ) → length (f r).words ≡ n) where
  pub length_flat : (rs : List ℕ) → length (flat (map f rs)) ≡ length rs * n
  unfolding flat
  length_flat [] = sym (zero-mul n)
  length_flat (r ∷ rs) =
      let a = sized r in
      let b = length_flat rs in
      let c = suc-mul (length rs) n in
      length-append (f r).words (flat (map f rs)) ∙ omega arith

  row_flat : (rs : List ℕ) (r : ℕ) (rest : List ℕ) (d : State) → r < length rs → row n r (flat (map f rs) ++ rest) ≡ (get_or (map f rs) r d).words
  unfolding flat
  row_flat [] r rest d h = absurd (omega arith)
  row_flat (x ∷ rs) zero rest d h = rw (zero-mul n, append_assoc) (take_at (f x).words _ n (sized x))
  row_flat (x ∷ rs) (suc r) rest d h = rw (append_assoc, skip) (row_flat rs r rest d (omega arith))
    where
      skip : drop (suc r * n) ((f x).words ++ (flat (map f rs) ++ rest)) ≡ drop (r * n) (flat (map f rs) ++ rest)
      skip =
          let e : suc r * n ≡ length (f x).words + r * n = let a = sized x in let c = suc-mul r n in omega arith in
          ap (λ k. drop k ((f x).words ++ (flat (map f rs) ++ rest))) e ∙ drop-append-add (f x).words (flat (map f rs) ++ rest) (r * n)

  -- row r of what is written
  pub row_over : (k r : ℕ) (xs : List ℕ) → r < k → row n r (over (flat (map f (range 0 k))) xs) ≡ (f r).words
  row_over k r xs h = row_flat (range 0 k) r _ (f r) (rw (length_range 0 k) h) ∙ ap (λ st. st.words) (table_at f k r (f r) h)

  pub length_rows : (k : ℕ) (xs : List ℕ) → k * n ≤ length xs → length (over (flat (map f (range 0 k))) xs) ≡ length xs
  length_rows k xs h = length_over (flat (map f (range 0 k))) xs (rw (length_flat (range 0 k), length_range 0 k) h)

-- row lists that number 2 lets pass
pub long_rows : (n : ℕ) (ls : List ℕ) (xs : Rows) → short_rows n ls xs ≡ accept → (row_count ls * n ≤ length xs.forward) × (row_count ls * n ≤ length xs.backward)
long_rows n ls xs h =
    let z = neither (ltb (length xs.forward) (row_count ls * n)) (ltb (length xs.backward) (row_count ls * n)) (if_accept _ 2 0 h) in
    (ltb-false _ _ z.0, ltb-false _ _ z.1)

-- both row lists are as long as before
pub rows_long : (n : ℕ) (ls : List ℕ) (f g : ℕ → State) → ((r : ℕ) → length (f r).words ≡ n) → ((r : ℕ) → length (g r).words ≡ n)
    → (xs : Rows) → short_rows n ls xs ≡ accept
    → short_rows n ls (record { forward = over (flat (map f (rows_of ls))) xs.forward; backward = over (flat (map g (rows_of ls))) xs.backward }) ≡ accept
rows_long n ls f g a b xs h =
    let z = long_rows n ls xs h in
    rw (length_rows n f a (row_count ls) xs.forward z.0, length_rows n g b (row_count ls) xs.backward z.1) h

pub unsettled_map : (f : ℕ → State) (rs : List ℕ) → ((r : ℕ) → Memᴰ r rs → any_of (f r).waiting ≡ false) → unsettled (map f rs) ≡ false
unfolding unsettled
unsettled_map f [] h = refl
unsettled_map f (r ∷ rs) h = rw (h r (Memᴰ-head refl), unsettled) (unsettled_map f rs (λ x m. h x (Memᴰ-tail m)))

-- ---- each run ends with n words

pub open_sized : (n : ℕ) (ls : List ℕ) (es : List Edge) (r : ℕ) → length (open_row n ls es r).words ≡ n
unfolding opened
open_sized n ls es r = settle_sized (property_of r) _ n _ _ (length-set (replicate n (property_of r).none) _ _ ∙ length-replicate n _)

pub batch_sized : (n : ℕ) (ls : List ℕ) (es fs : List Edge) (xs : List ℕ) (r : ℕ) → length (batch_row n ls es fs xs r).words ≡ n
unfolding prepared cleared
batch_sized n ls es fs xs r = settle_sized (property_of r) fs n _ _ (length_table _ 0 n)

-- ---- landmarks are vertices

landmarks_below : (n : ℕ) (ls : List ℕ) (i : ℕ) → are_landmarks n ls ≡ true → i < length ls → get_or ls i 0 < n
unfolding are_landmarks
landmarks_below n [] i h k = absurd (omega arith)
landmarks_below n (l ∷ ls) zero h k = ltb-true _ _ (both (ltb l n) _ h).0
landmarks_below n (l ∷ ls) (suc i) h k =
    let z = both (ltb l n) _ h in
    landmarks_below n ls i (both (not (is_in l ls)) (are_landmarks n ls) z.1).1 (omega arith)

pub landmark_below : (n : ℕ) (ls : List ℕ) (i : ℕ) → landmarks n ls ≡ accept → i < length ls → get_or ls i 0 < n
landmark_below n ls i h k =
    let a = neither (eqb (length ls) 0) _ (if_accept _ _ _ h) in
    let b = neither (ltb max_landmarks (length ls)) (not (are_landmarks n ls)) a.1 in
    landmarks_below n ls i (not-false _ b.1) k

-- ---- best words

abbrev pub RowsBest : ℕ → List ℕ → List Edge → List ℕ → Type 0
RowsBest n ls es xs = (r : ℕ) → r < row_count ls → (t : ℕ) → Best (property_of r) es (landmark_of ls r) t (word (property_of r) (row n r xs) t)

module _ (n : ℕ) (ls : List ℕ) (ok : landmarks n ls ≡ accept) where
  abbrev L : (r : ℕ) → Laws (property_of r)
  L r = property_laws (suc (r % properties))

  pub source : (r : ℕ) → r < row_count ls → landmark_of ls r < n
  source r h = landmark_below n ls (r / properties) ok ((div-lt_iff_lt-mul {k = properties} (omega arith)).1 h)

  below : (r : ℕ) → Memᴰ r (rows_of ls) → r < row_count ls
  below r m = let z = range_below 0 (row_count ls) r m in omega arith

  -- ---- an opening

  module _ (es : List Edge) (inside : Within n es) where
    pub open_rests : unsettled (open_rows n ls es) ≡ false
    open_rests = unsettled_map (open_row n ls es) (rows_of ls) (λ r m. open_row_ends n ls es inside r)

    -- The run of row r starts where only the row's landmark has a route. From any words nothing waits after n rounds: so its words are best
    -- for the row's property and landmark.
    -- Row r of what an opening writes is the words in which that run ends.
    pub open_best : (xs : List ℕ) → RowsBest n ls es (over (flat (open_rows n ls es)) xs)
    open_best xs r h t = rw (row_over n (open_row n ls es) (open_sized n ls es) (row_count ls) r xs h)
        (opened_best (L r) es (landmark_of ls r) n inside (source r h) n (open_row_ends n ls es inside r) t)

  -- ---- a batch

  -- es are the edges before the batch and fs those after it; the rows in xs hold best words of es
  module _ (es fs : List Edge) (old : Within n es) (new : Within n fs) (xs : List ℕ) (best : RowsBest n ls es xs) where
    batch_row_rests : (r : ℕ) → r < row_count ls → any_of (batch_row n ls es fs xs r).waiting ≡ false
    batch_row_rests r h = batch_row_ends n ls es fs new xs r (λ t. best_fits (L r) es (landmark_of ls r) n old (best r h t))

    -- nothing waits in any row: best values are words, and from any words n rounds suffice
    pub batch_rests : unsettled (batch_rows n ls es fs xs) ≡ false
    batch_rests = unsettled_map (batch_row n ls es fs xs) (rows_of ls) (λ r m. batch_row_rests r (below r m))

    -- Row r of what a batch writes is the words in which the run of row r ends. That run starts from the row before the batch, whose words
    -- are best on the old edges, with no route for the affected vertices. Nothing waits at its end: so its words are best on the new edges.
    pub batch_best : RowsBest n ls fs (over (flat (batch_rows n ls es fs xs)) xs)
    batch_best r h t = rw (row_over n (batch_row n ls es fs xs) (batch_sized n ls es fs xs) (row_count ls) r xs h)
        (row-best (L r) es fs (landmark_of ls r) n old new (source r h) (row n r xs) (best r h) n (batch_row_rests r h) t)

    -- .. and no worse than before where the vertex is not affected, since it keeps its word until the rounds better it
    pub batch_unworse : Unworse n ls es fs xs (over (flat (batch_rows n ls es fs xs)) xs)
    batch_unworse r t h k a = rw (row_over n (batch_row n ls es fs xs) (batch_sized n ls es fs xs) (row_count ls) r xs h)
        (unaffected (L r) es fs (landmark_of ls r) n old new (source r h) (row n r xs) (best r h) n t k a)
