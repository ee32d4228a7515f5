-- The claims of specs/Steady.antt. Assumes nothing.
use Rattle.property.proofs.Basics.{◌≡◌, refl, sym, ap, ◌∙◌, Bool, true, false, ◌&&◌, ◌||◌, cond, true≢false, false≢true, List, [], ◌∷◌, ◌++◌, map, Memᴰ, Memᴰ-head, Memᴰ-tail, ℕ, zero, suc, ◌+◌, ◌*◌, ◌%◌, ◌≤◌, ◌<◌, zero-mul, suc-mul, mul-le-mul_right, arith, length, get_or, take, drop, length-drop, get_or-map, take-append-drop, length-take-le, take-add, drop-drop, ext_get_or, eqb, lt-ltb, le-leb, eqb-true, eq-eqb, ne_eqb}
use Rattle.property.specs.Property.{Property, properties}
use Rattle.property.specs.Laws.{Laws}
use Rattle.property.proofs.Tests.{is_false}
use Rattle.property.proofs.Instances.{property_laws}
use Rattle.frontier.specs.Waiting.{any_of, count_of}
use Rattle.frontier.proofs.Laws.{count_none, none_any}
use Rattle.graph.specs.Refusal.{accept, ◌▷◌, refuse_if, accepted, replied, over}
use Rattle.graph.specs.Limits.{max_weight}
use Rattle.graph.specs.Edge.{Edge, reverse, range, exists}
use Rattle.graph.specs.Table.{rules, size, short_table, table, update}
use Rattle.graph.proofs.Tests.{both, or_false}
use Rattle.graph.proofs.Lists.{length_table, table_at, range_below}
use Rattle.graph.proofs.Edges.{exists_true, mem_among}
use Rattle.graph.proofs.Verdicts.{accept_if, outcome_accepted}
use Rattle.graph.proofs.Judging.{table_accept}
use Rattle.graph.proofs.Order.{Within, rules_accept, sound_fit}
use Rattle.graph.proofs.Keeps.{update_own}
use Rattle.run.specs.Run.{State, word, settle}
use Rattle.theory.proofs.Settle.{Settled, settle_idle}
use Rattle.theory.proofs.Value.{best_settled}
use Rattle.theory.proofs.Reverse.{within_reverse}
use Rattle.affected.specs.Net.{added}
use Rattle.affected.specs.Affected.{Affected, at_removed, onward, marked, affected}
use Rattle.affected.specs.Prepared.{cleared, reopened, prepared}
use Rattle.affected.proofs.Net.{Weighs, rules_weigh, weighs_reverse, kept_stays}
use Rattle.affected.proofs.Hunt.{unaffected_unmarked}
use Rattle.network.specs.Network.{Network, edges_in, row_count, short_rows, landmarks, faults, row, property_of, landmark_of, rows_of, flat, unsettled, stores_of}
use Rattle.network.specs.Change.{Change, brought, updates, edit, words, against, item, items}
use Rattle.network.specs.Batch.{batch_row, batch_rows, affected_over, rewritten, new_forward, new_backward, batch_faults, batch_verdict, batch_memory, report, batch_call}
use Rattle.network.specs.Settled.{settled, Check, in_records, in_rows, check, settled_call}
use Rattle.network.specs.Caller.{reported, hand_on}
use Rattle.network.specs.History.{moment}
use Rattle.network.specs.Steady.{EmptyBatch, OwnWeight, SettledAfter}
use Rattle.network.proofs.Items.{edit_update, same_struck, table_sound, table_count, rewritten_edges}
use Rattle.network.proofs.Rows.{RowsBest, long_rows, unsettled_map}
use Rattle.network.proofs.Moment.{good_within, faults_parts, good_faults}
use Rattle.network.proofs.Never.{begun}

-- ---- nothing is removed, and nothing added

-- where no edge is removed, no vertex is affected: a chain of held edges would have to begin at a removed one
none_affected : {P : Property} → Laws P → (es : List Edge) → Weighs es → (s : ℕ) (ws : List ℕ) {t : ℕ} → Affected P es es s ws t → ⊥
none_affected {P} L es z s ws (at_removed {e = e} m r h) = true≢false (sym r ∙ kept_stays L es es z e m)
none_affected L es z s ws (onward a m r h) = none_affected L es z s ws a

-- ---- one row whose words are ws

module _ {P : Property} (L : Laws P) (es : List Edge) (weights : Weighs es) (s : ℕ) (ws : List ℕ) (n : ℕ) where
  unmarked : (t : ℕ) → marked (affected P es es s ws n) t ≡ false
  unmarked t = unaffected_unmarked P es es s ws n t (none_affected L es weights s ws)

  none_counted : count_of (affected P es es s ws n) ≡ 0
  none_counted = count_none (affected P es es s ws n) unmarked

  -- the test by which a vertex t waits
  abbrev wakes : ℕ → Bool
  wakes t = exists (λ e. eqb e.tail t && (marked (affected P es es s ws n) e.head || added P es es e)) es

  asleep : (t : ℕ) → wakes t ≡ false
  asleep t = is_false (wakes t) (λ h.
      let (e, m, q) = exists_true (λ e. eqb e.tail t && (marked (affected P es es s ws n) e.head || added P es es e)) es h in
      let z = (both (eqb e.tail t) (marked (affected P es es s ws n) e.head || added P es es e) q).1 in
      false≢true (sym (or_false (unmarked e.head) (kept_stays L es es weights e m)) ∙ z))

  asleep_at : (t : ℕ) → get_or (map wakes (range 0 n)) t false ≡ false
  asleep_at t = ap (get_or (map wakes (range 0 n)) t) (sym (asleep 0)) ∙ get_or-map wakes (range 0 n) t 0 ∙ asleep _

  none_waits : any_of (prepared P es es s ws n).waiting ≡ false
  unfolding prepared reopened
  none_waits = none_any (map wakes (range 0 n)) asleep_at

  still : (k : ℕ) → settle P es n k (prepared P es es s ws n) ≡ prepared P es es s ws n
  still k = settle_idle P es n k (prepared P es es s ws n) none_waits

  none_cleared : length ws ≡ n → (prepared P es es s ws n).words ≡ ws
  unfolding prepared cleared
  none_cleared l = ext_get_or P.none _ ws (length_table kept 0 n ∙ sym l) (λ t h. table_at kept n t P.none (rw (length_table kept 0 n) at h) ∙ ap (λ b. cond b P.none (word P ws t)) (unmarked t))
    where
      kept : ℕ → ℕ
      kept t = cond (marked (affected P es es s ws n) t) P.none (word P ws t)

-- ---- the rows of one list

-- rows that are those of xs lie together as xs does
flat_rows : (n : ℕ) (f : ℕ → State) (xs : List ℕ) (i k : ℕ) → ((r : ℕ) → r < i + k → (f r).words ≡ row n r xs)
    → flat (map f (range i k)) ≡ take (k * n) (drop (i * n) xs)
unfolding flat range
flat_rows n f xs i zero h = ap (λ j. take j (drop (i * n) xs)) (sym (zero-mul n))
flat_rows n f xs i (suc k) h =
    let a = suc-mul k n in
    let b = suc-mul i n in
    let e : suc k * n ≡ n + k * n = omega arith in
    let d : suc i * n ≡ i * n + n = omega arith in
    rw (h i (omega arith), flat_rows n f xs (suc i) k (λ r q. h r (omega arith)), e, d, take-add n (k * n) (drop (i * n) xs), drop-drop n (i * n) xs)

front_over : (m : ℕ) (xs : List ℕ) → m ≤ length xs → over (take m xs) xs ≡ xs
front_over m xs h = ap (λ j. take m xs ++ drop j xs) (length-take-le m xs h) ∙ take-append-drop m xs

pub row_long : (n k r : ℕ) (xs : List ℕ) → k * n ≤ length xs → r < k → length (row n r xs) ≡ n
row_long n k r xs h q = length-take-le n (drop (r * n) xs) (let z = length-drop (r * n) xs in let a = suc-mul r n in let b = mul-le-mul_right n q in omega arith)

-- what a batch without changes leaves of the rows xs of one side
record Still (n : ℕ) (ls : List ℕ) (es : List Edge) (xs : List ℕ) : Type 0 where
  rests : unsettled (batch_rows n ls es es xs) ≡ false
  kept : over (flat (batch_rows n ls es es xs)) xs ≡ xs
  affected : affected_over n ls es es xs (rows_of ls) ≡ 0
  stores : stores_of (batch_rows n ls es es xs) ≡ 0

-- nothing is removed and nothing added, so the runs start, and end, with the words that are there
module _ (n : ℕ) (ls : List ℕ) (es : List Edge) (weights : Weighs es) (xs : List ℕ) (long : row_count ls * n ≤ length xs) where
  laws : (r : ℕ) → Laws (property_of r)
  laws r = property_laws (suc (r % properties))

  abbrev ready : ℕ → State
  ready r = prepared (property_of r) es es (landmark_of ls r) (row n r xs) n

  row_still : (r : ℕ) → batch_row n ls es es xs r ≡ ready r
  row_still r = still (laws r) es weights (landmark_of ls r) (row n r xs) n n

  row_words_lem : (r : ℕ) → r < 0 + row_count ls → (batch_row n ls es es xs r).words ≡ row n r xs
  row_words_lem r h = ap (λ st. st.words) (row_still r) ∙ none_cleared (laws r) es weights (landmark_of ls r) (row n r xs) n (row_long n (row_count ls) r xs long (omega arith))

  no_stores : (rs : List ℕ) → stores_of (map (batch_row n ls es es xs) rs) ≡ 0
  unfolding stores_of prepared
  no_stores [] = refl
  no_stores (r ∷ rs) = let a : (batch_row n ls es es xs r).tally.stores ≡ 0 = ap (λ st. st.tally.stores) (row_still r) in let b = no_stores rs in omega arith

  no_affected : (rs : List ℕ) → affected_over n ls es es xs rs ≡ 0
  unfolding affected_over
  no_affected [] = refl
  no_affected (r ∷ rs) = let a = none_counted (laws r) es weights (landmark_of ls r) (row n r xs) n in let b = no_affected rs in omega arith

  rows_still : Still n ls es xs
  rows_still = record {
    rests = unsettled_map (batch_row n ls es es xs) (rows_of ls)
        (λ r m. ap (λ st. any_of st.waiting) (row_still r) ∙ none_waits (laws r) es weights (landmark_of ls r) (row n r xs) n);
    kept = ap (λ l. over l xs) (flat_rows n (batch_row n ls es es xs) xs 0 (row_count ls) row_words_lem)
        ∙ ap (λ j. over (take (row_count ls * n) (drop j xs)) xs) (zero-mul n) ∙ front_over (row_count ls * n) xs long;
    affected = no_affected (rows_of ls);
    stores = no_stores (rows_of ls);
  }

-- ---- the empty batch

module _ (n : ℕ) (ls : List ℕ) (w : Network) (h : faults n ls w ≡ accept) where
  abbrev es : List Edge
  es = edges_in w

  parts : (size n ≡ accept) × (short_table w.memory.table ≡ accept) × (short_rows n ls w.memory.rows ≡ accept) × (landmarks n ls ≡ accept)
      × (table n w.memory.table w.count ≡ accept)
  parts = faults_parts n ls w h

  weights : Weighs es
  weights = rules_weigh n es (table_accept n w.memory.table w.count parts.4).1

  ahead : Still n ls es w.memory.rows.forward
  ahead = rows_still n ls es weights w.memory.rows.forward (long_rows n ls w.memory.rows parts.2).0

  back : Still n ls (map reverse es) w.memory.rows.backward
  back = rows_still n ls (map reverse es) (weighs_reverse es weights) w.memory.rows.backward (long_rows n ls w.memory.rows parts.2).1

  count : length es ≡ w.count
  count = table_count w.memory.table w.count parts.1 (table_sound n w.memory.table w.count parts.4).0

  -- the network whose table is written anew
  abbrev anew : ℕ → Network
  anew k = record { memory = record { table = rewritten es w.memory.table; rows = w.memory.rows }; count = k }

  whole : batch_call n ls w [] ≡ record { reply = accepted (record { count = w.count; affected = 0; stores = 0 }); memory = (anew 0).memory }
  unfolding batch_call batch_faults items ◌▷◌ refuse_if
  whole =
      let x = ahead.affected in
      let y = back.affected in
      let a : (report n ls w es).affected ≡ 0 = omega arith in
      let u = ahead.stores in
      let v = back.stores in
      let s : (report n ls w es).stores ≡ 0 = omega arith in
      outcome_accepted (batch_verdict n ls w []) (report n ls w es) (batch_memory n ls w es) w.memory
      (ap (λ v. v ▷ refuse_if (unsettled (new_forward n ls w es) || unsettled (new_backward n ls w es)) 13 0) h ∙ accept_if 13 0 (or_false ahead.rests back.rests))
      ∙ (λ i. record {
        reply = accepted (record { count = count i; affected = a i; stores = s i });
        memory = record { table = rewritten es w.memory.table; rows = record { forward = ahead.kept i; backward = back.kept i } };
      })

-- Without changes the edges are the same before and after, on either side. So in no row is an edge removed or added: no vertex is affected, none
-- waits, the run ends as it starts, with the row's own words and nothing stored. Nothing waits, so 13 does not come; and 1 to 4 let it pass.
pub empty_batch : EmptyBatch
unfolding reported
empty_batch n ls w h = (
  ap (λ o. o.reply) (whole n ls w h),
  ap (λ o. o.memory.rows) (whole n ls w h),
  ap (λ o. edges_in (hand_on w o)) (whole n ls w h) ∙ ap (λ k. edges_in (anew n ls w h k)) (sym (count n ls w h)) ∙ rewritten_edges (edges_in w) w.memory.table,
)

-- ---- an update by the weight that is there

own_item : (n : ℕ) (es : List Edge) → rules n es ≡ accept → (c : Change) → updates c ≡ true → c.old ≡ c.weight → Memᴰ (brought c) es → item n 0 es c ≡ accept
unfolding item words against ◌▷◌ refuse_if
own_item n es h c u o m =
    let f = sound_fit n es (rules_accept n es h) (brought c) m in
    let k : c.kind ≡ 3 = eqb-true _ _ u in
    rw (k, o, lt-ltb c.tail n f.tail_below, lt-ltb c.head n f.head_below, ne_eqb c.tail c.head f.no_loop, lt-ltb 0 c.weight f.some_weight, le-leb c.weight max_weight f.weight_most, eq-eqb c.weight c.weight refl, mem_among m)

own_edit : (n : ℕ) (es : List Edge) → rules n es ≡ accept → (c : Change) → updates c ≡ true → c.old ≡ c.weight → Memᴰ (brought c) es → edit es c ≡ es
own_edit n es h c u o m = edit_update es c u ∙ ap (λ e. update e (brought c) es) (same_struck c u o) ∙ update_own n es (rules_accept n es h) (brought c) m

-- The update is accepted and leaves the edges as they are, as no change does; and nothing else of a batch goes into its outcome.
pub own_weight : OwnWeight
unfolding batch_call batch_faults items ◌▷◌ refuse_if
own_weight n ls w h c u o m =
    let r : rules n (edges_in w) ≡ accept = (table_accept n w.memory.table w.count (faults_parts n ls w h).4).1 in
    rw (own_item n (edges_in w) r c u o m, own_edit n (edges_in w) r c u o m)

-- ---- the settled check

records_settled : (P : Property) (ws : List ℕ) (side r j : ℕ) (es : List Edge) (later : Check) → Settled P es ws → in_records P ws side r j es later ≡ later
unfolding in_records
records_settled P ws side r j [] later h = refl
records_settled P ws side r j (e ∷ es) later h =
    rw (h e (Memᴰ-head refl)) (records_settled P ws side r (suc j) es later (λ x m. h x (Memᴰ-tail m)))

rows_settled : (n : ℕ) (es : List Edge) (xs : List ℕ) (side : ℕ) (rs : List ℕ) (later : Check)
    → ((r : ℕ) → Memᴰ r rs → Settled (property_of r) es (row n r xs)) → in_rows n es xs side rs later ≡ later
unfolding in_rows
rows_settled n es xs side [] later h = refl
rows_settled n es xs side (r ∷ rs) later h =
    records_settled (property_of r) (row n r xs) side r 0 es (in_rows n es xs side rs later) (h r (Memᴰ-head refl))
    ∙ rows_settled n es xs side rs later (λ x m. h x (Memᴰ-tail m))

-- rows of best words are settled
best_rows_settled : (n : ℕ) (ls : List ℕ) (es : List Edge) (xs : List ℕ) (side : ℕ) (later : Check) → Within n es → RowsBest n ls es xs → in_rows n es xs side (rows_of ls) later ≡ later
best_rows_settled n ls es xs side later inside best = rows_settled n es xs side (rows_of ls) later (λ r m.
    best_settled (property_laws (suc (r % properties))) es (landmark_of ls r) n inside (row n r xs) (best r (let z = range_below 0 (row_count ls) r m in omega arith)))

-- At any moment the rows hold best words, of the edges ahead and of the reversed ones; no edge could better a best word.
pub settled_after : SettledAfter
unfolding settled_call replied
settled_after n ls w h bs =
    let m = moment n ls w bs in
    let g = (begun n ls w h bs).0 in
    let i = good_within n ls m g in
    ap (λ v. replied v (check n ls m)) (good_faults n ls m g)
    ∙ ap accepted (best_rows_settled n ls (edges_in m) m.memory.rows.forward 0 _ i g.forward
    ∙ best_rows_settled n ls (map reverse (edges_in m)) m.memory.rows.backward 1 settled (within_reverse n (edges_in m) i) g.backward)
