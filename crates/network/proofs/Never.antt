-- Number 13 never comes on a network of these calls, and which numbers do. Assumes nothing.
--
--   Only Q v       == v accepts, or refuses with a number that passes the test Q
--   between a b k  == k is a to b
--   open_number k  == k is 1 to 4
--   batch_number k == k is 1, or 6 to 12
--   query_number k == k is 1, 2, 5 or 6
use Rattle.property.proofs.Basics.{◌≡◌, refl, sym, ◌∙◌, Bool, true, false, ◌&&◌, ◌||◌, true≢false, List, [], ◌∷◌, map, ℕ, zero, suc, ◌*◌, ◌≤◌, length, get_or, take, drop, get_or-drop, leb, eqb}
use mathlib.Core.List.Memᴰ
use Rattle.property.specs.Property.{M, property}
use Rattle.property.proofs.Instances.{property_laws}
use Rattle.graph.specs.Refusal.{Verdict, accept, refuse, ◌▷◌, refuse_if, Reply, verdict_of}
use Rattle.graph.specs.Edge.{Edge, reverse, range}
use Rattle.graph.specs.Table.{Columns, edges_of, follow, rules, table}
use Rattle.graph.specs.Sorted as order
use Rattle.graph.proofs.Tests.{or_false, or_right}
use Rattle.graph.proofs.Verdicts.{accept_if, then_last, verdict_replied}
use Rattle.graph.proofs.Order.{within}
use Rattle.run.specs.Run.{word}
use Rattle.theory.proofs.Reverse.{within_reverse}
use Rattle.network.specs.Network.{Network, edges_in, faults, row}
use Rattle.network.specs.Open.{open_verdict, open_call}
use Rattle.network.specs.Query.{Query, Words, scheduled, query_faults, query_verdict, query_call}
use Rattle.network.specs.Change.{Change, edit, words, against, item, items}
use Rattle.network.specs.Batch.{batch_call}
use Rattle.network.specs.Current.{turned_back, query_back}
use Rattle.network.specs.History.{moment, edges_now}
pub use Rattle.network.specs.Never.{FitList}
use Rattle.network.specs.Never.{Never, OpenNever, BatchNever, QueryNever}
use Rattle.network.proofs.Items.{table_sound}
use Rattle.network.proofs.Rows.{open_rests}
use Rattle.network.proofs.Moment.{Good, faults_parts, good_faults, steps, moment_good}
use Rattle.network.proofs.Ends.{query_ends}
use Rattle.network.proofs.Query.{query_parts, query_own, query_request, query_rests}

-- ---- what turns each call back

-- An opening, on whatever lists, is turned back by numbers 1 to 4 alone. Where these accept, its edges lie within the n vertices, and so do
-- the reversed ones: nothing waits after n rounds.
pub open_verdict_lem : (n : ℕ) (ls : List ℕ) (w : Network) → open_verdict n ls w ≡ faults n ls w
open_verdict_lem n ls w = then_last (faults n ls w) (λ h.
    let f = faults_parts n ls w h in
    let i = within n (edges_in w) (table_sound n w.memory.table w.count f.4).1 in
    accept_if 13 0 (or_false (open_rests n ls f.3 (edges_in w) i) (open_rests n ls f.3 (map reverse (edges_in w)) (within_reverse n (edges_in w) i))))

pub open_judged : (n : ℕ) (ls : List ℕ) (w : Network) → verdict_of (open_call n ls w).reply ≡ faults n ls w
unfolding open_call
open_judged n ls w = verdict_replied (open_verdict n ls w) tt ∙ open_verdict_lem n ls w

-- a batch on a network that keeps the invariant, by what document 01 has for a batch on its edges alone
pub batch_judged : (n : ℕ) (ls : List ℕ) (w : Network) (b : List Change) → Good n ls w
    → verdict_of (batch_call n ls w b).reply ≡ turned_back n (edges_in w) b
batch_judged n ls w b g = (steps n ls w b g).applied.judged

-- each word that is read of a part of a list of words of 32 bits is one, past its end too
take_fits : (n : ℕ) (xs : List ℕ) (t d : ℕ) → d ≤ M → FitList xs → get_or (take n xs) t d ≤ M
take_fits zero xs t d h k = h
take_fits (suc n) [] t d h k = h
take_fits (suc n) (x ∷ xs) zero d h k = k 0
take_fits (suc n) (x ∷ xs) (suc t) d h k = take_fits n xs t d h (λ i. k (suc i))

pub row_fits : (p n r : ℕ) (xs : List ℕ) → FitList xs → (t : ℕ) → word (property p) (row n r xs) t ≤ M
row_fits p n r xs h t = take_fits n (drop (r * n) xs) t _ (property_laws p).none_fits (λ i. rw (get_or-drop (r * n) xs i 0) (h _))

-- A query on whatever words of 32 bits the row lists hold is turned back by the numbers before the run alone: nothing waits after n rounds.
pub query_verdict_lem : (n : ℕ) (ls : List ℕ) (w : Network) (q : Query) (out : Words) → FitList w.memory.rows.forward → FitList w.memory.rows.backward
    → query_verdict n ls w q out ≡ query_faults n ls w q (length out.starts) (length out.settled)
query_verdict_lem n ls w q out f b = then_last _ (λ h.
    let i = within n (edges_in w) (table_sound n w.memory.table w.count (query_parts n ls w q _ _ h).6).1 in
    accept_if 13 0 (query_ends n ls w q i (λ l m.
    let (i, k, e) = Memᴰ.of_map _ (range 0 (length ls)) m in
    rw (← e) (record { into = row_fits q.property n _ _ b q.source; row = row_fits q.property n _ _ f }))))

-- A query on a network that keeps the invariant is turned back by its own numbers alone. The network's size, lists, landmarks and table
-- are as they must be. Where property and source are too, its start words are words, and so are those that the schedule leaves: nothing
-- waits after n rounds.
pub query_judged : (n : ℕ) (ls : List ℕ) (w : Network) (q : Query) (out : Words) → Good n ls w
    → verdict_of (query_call n ls w q out).reply ≡ query_back n q out
unfolding query_call
query_judged n ls w q out g = verdict_replied (query_verdict n ls w q out) _
    ∙ then_last (query_faults n ls w q (length out.starts) (length out.settled))
    (λ h. let r = query_request n ls w q (length out.starts) (length out.settled) h in accept_if 13 0 (query_rests n ls w g q r.0 r.1 r.2))
    ∙ query_own n ls w q _ _ (good_faults n ls w g)

-- ---- which numbers come

abbrev pub between : ℕ → ℕ → ℕ → Bool
between a b k = leb a k && leb k b

abbrev pub open_number : ℕ → Bool
open_number k = between 1 4 k

abbrev pub batch_number : ℕ → Bool
batch_number k = eqb k 1 || between 6 12 k

abbrev pub query_number : ℕ → Bool
query_number k = between 1 2 k || between 5 6 k

pub data Only (Q : ℕ → Bool) : Verdict → Type 0 where
  accepts : Only Q accept
  refuses : {k i : ℕ} → Q k ≡ true → Only Q (refuse k i)

pub only_if : {Q : ℕ → Bool} (t : Bool) (k i : ℕ) → Q k ≡ true → Only Q (refuse_if t k i)
unfolding refuse_if
only_if true k i h = refuses h
only_if false k i h = accepts

pub only_more : {Q R : ℕ → Bool} {v : Verdict} → ((k : ℕ) → Q k ≡ true → R k ≡ true) → Only Q v → Only R v
only_more f accepts = accepts
only_more f (refuses h) = refuses (f _ h)

pub only_then : {Q : ℕ → Bool} {a b : Verdict} → Only Q a → Only Q b → Only Q (a ▷ b)
unfolding ◌▷◌
only_then accepts k = k
only_then (refuses h) k = refuses h

only_follow : {Q : ℕ → Bool} → Q 4 ≡ true → (n i : ℕ) (p : Edge) (es : List Edge) → Only Q (follow n i p es)
unfolding order.follow
only_follow h n i p [] = accepts
only_follow h n i p (e ∷ es) = only_then (only_if _ 4 i h) (only_follow h n (suc i) e es)

pub only_rules : {Q : ℕ → Bool} → Q 4 ≡ true → (n : ℕ) (es : List Edge) → Only Q (rules n es)
unfolding order.rules
only_rules h n [] = accepts
only_rules h n (e ∷ es) = only_then (only_if _ 4 0 h) (only_follow h n 1 e es)

pub only_table : {Q : ℕ → Bool} → Q 4 ≡ true → (n : ℕ) (cs : Columns) (m : ℕ) → Only Q (table n cs m)
only_table h n cs m = only_then (only_if _ 4 0 h) (only_rules h n (edges_of cs m))

pub only_scheduled : {Q : ℕ → Bool} → Q 6 ≡ true → (n i : ℕ) (vs : List ℕ) → Only Q (scheduled n i vs)
unfolding scheduled
only_scheduled h n i [] = accepts
only_scheduled h n i (v ∷ vs) = only_then (only_if _ 6 i h) (only_scheduled h n (suc i) vs)

pub only_items : (n i : ℕ) (es : List Edge) (cs : List Change) → Only (between 6 12) (items n i es cs)
unfolding items item words against
only_items n i es [] = accepts
only_items n i es (c ∷ cs) = only_then (only_then
    (only_then (only_if _ 6 i refl) (only_then (only_if _ 7 i refl) (only_then (only_if _ 8 i refl) (only_if _ 9 i refl))))
    (only_then (only_if _ 10 i refl) (only_then (only_if _ 11 i refl) (only_if _ 12 i refl))))
    (only_items n (suc i) (edit es c) cs)

pub faults_numbers : (n : ℕ) (ls : List ℕ) (w : Network) → Only open_number (faults n ls w)
faults_numbers n ls w = only_then (only_if _ 1 0 refl) (only_then (only_if _ 2 0 refl) (only_then (only_if _ 2 0 refl) (only_then (only_if _ 3 0 refl)
    (only_table refl n w.memory.table w.count))))

pub open_numbers : (n : ℕ) (ls : List ℕ) (w : Network) → Only open_number (verdict_of (open_call n ls w).reply)
open_numbers n ls w = rw (open_judged n ls w) (faults_numbers n ls w)

pub batch_numbers : (n : ℕ) (ls : List ℕ) (w : Network) (b : List Change) → Good n ls w → Only batch_number (verdict_of (batch_call n ls w b).reply)
unfolding turned_back
batch_numbers n ls w b g = rw (batch_judged n ls w b g) (only_then (only_if _ 1 0 refl) (only_more (λ k. or_right (eqb k 1)) (only_items n 0 (edges_in w) b)))

pub query_numbers : (n : ℕ) (ls : List ℕ) (w : Network) (q : Query) (out : Words) → Good n ls w
    → Only query_number (verdict_of (query_call n ls w q out).reply)
query_numbers n ls w q out g = rw (query_judged n ls w q out g) (only_then (only_if _ 1 0 refl) (only_then (only_if _ 2 0 refl)
    (only_then (only_if _ 5 0 refl) (only_then (only_if _ 6 0 refl) (only_scheduled refl n 0 q.schedule)))))

-- ---- number 13 does not

-- 13 is none of those numbers
pub others : {A : Type 0} {Q : ℕ → Bool} (r : Reply A) → Q 13 ≡ false → Only Q (verdict_of r) → Never r
unfolding verdict_of
others {Q = Q} r d h i e = pick (rw e at h)
  where
    pick : Only Q (refuse 13 i) → ⊥
    pick (refuses k) = true≢false (sym k ∙ d)

pub open_never : OpenNever
open_never n ls w = others _ refl (open_numbers n ls w)

-- at any moment after an opening that numbers 1 to 4 let pass the invariant holds, and the edges are the network as it is now
pub begun : (n : ℕ) (ls : List ℕ) (w : Network) → faults n ls w ≡ accept → (bs : List (List Change))
    → Good n ls (moment n ls w bs) × (edges_in (moment n ls w bs) ≡ edges_now n w bs)
begun n ls w h = moment_good n ls w (open_judged n ls w ∙ h)

pub batch_never : BatchNever
batch_never n ls w h bs b = others _ refl (batch_numbers n ls (moment n ls w bs) b (begun n ls w h bs).0)

pub query_never : QueryNever
query_never n ls w h bs q out = others _ refl (query_numbers n ls (moment n ls w bs) q out (begun n ls w h bs).0)
