-- Which numbers turn a call back, whatever its lists hold, as long as the words of its row lists are of 32 bits: document 01, "Turned back". 13 is none of
-- them. Assumes nothing.
use Rattle.property.proofs.Basics.{◌≡◌, refl, ◌∙◌, Bool, true, List, [], ◌∷◌, ◌++◌, map, ℕ, zero, suc, ◌+◌, ◌≤◌, ◌%◌, dec_lt, arith, length, drop, get_or-drop, get_or-eq_default, leb, le-leb, leb-true}
use Rattle.property.specs.Property.{properties}
use Rattle.property.proofs.Instances.{property_laws}
use Rattle.graph.specs.Refusal.{Verdict, accept, refuse, ◌▷◌, choose, verdict_of, over}
use Rattle.graph.specs.Edge.{Edge, reverse}
use Rattle.graph.specs.Table.{Columns, edges_of, bare_faults}
use Rattle.graph.proofs.Tests.{both, and_true}
use Rattle.graph.proofs.Verdicts.{then_accept, accept_then, verdict_replied}
use Rattle.graph.proofs.Order.{Within, within}
use Rattle.run.specs.Run.{State}
use Rattle.theory.specs.Rest.{FitWords}
use Rattle.theory.proofs.Reverse.{within_reverse}
use Rattle.theory.proofs.Chains.{settle_words}
use Rattle.affected.proofs.Fits.{prepared_words}
use Rattle.network.specs.Network.{Memory, Network, Rows, edges_in, faults, landmark_of, row, rows_of, flat}
use Rattle.network.specs.Query.{Query, Words, at_end, query_faults, query_verdict, query_call}
use Rattle.network.specs.Change.{Change, items}
use Rattle.network.specs.Batch.{batch_row, batch_rows, batch_faults, batch_verdict, batch_call, long_batch, new_edges}
use Rattle.network.specs.Current.{turned_back}
use Rattle.network.specs.Settled.{check, settled_call}
use Rattle.network.specs.Lookup.{lookup_verdict}
use Rattle.network.specs.Choice.{choice, choice_verdict, choice_call}
use Rattle.network.specs.Never.{AnyBatchNever, AnyQueryNever}
use Rattle.network.proofs.Moment.{edits_good}
use Rattle.network.proofs.Never.{FitList, row_fits, query_verdict_lem, Only, accepts, refuses, between, open_number, only_if, only_more, only_then, only_table, only_scheduled, only_items, faults_numbers, others}
use Rattle.network.proofs.Still.{still_waiting_lem}

-- ---- chains

-- what comes after an accepted verdict is judged alone
pub only_after : {Q : ℕ → Bool} {a b : Verdict} → Only Q a → (a ≡ accept → Only Q b) → Only Q (a ▷ b)
unfolding ◌▷◌
only_after accepts f = f refl
only_after (refuses h) f = refuses h

only_accept : {Q : ℕ → Bool} {v : Verdict} → v ≡ accept → Only Q v
only_accept e = rw e accepts

-- a wider range has the numbers of a narrower one
pub wider : {a b c d : ℕ} → c ≤ a → b ≤ d → (k : ℕ) → between a b k ≡ true → between c d k ≡ true
wider {a = a} {b = b} {c = c} {d = d} l h k e =
    let z = both (leb a k) (leb k b) e in
    and_true (le-leb c k (omega (arith, l, leb-true a k z.0))) (le-leb k d (omega (arith, h, leb-true k b z.1)))

-- v is what a call judges between 2 and 4
pub only_bare : {Q : ℕ → Bool} → Q 1 ≡ true → Q 2 ≡ true → Q 4 ≡ true → (n : ℕ) (cs : Columns) (m : ℕ) {v : Verdict} → Only Q v → Only Q (bare_faults n cs m v)
only_bare one two four n cs m o = only_then (only_if _ 1 0 one) (only_then (only_if _ 2 0 two) (only_then o (only_table four n cs m)))

-- ---- calls that run nothing

pub settled_numbers : (n : ℕ) (ls : List ℕ) (w : Network) → Only open_number (verdict_of (settled_call n ls w))
unfolding settled_call
settled_numbers n ls w = rw (verdict_replied (faults n ls w) (check n ls w)) (faults_numbers n ls w)

pub lookup_numbers : (n : ℕ) (ls : List ℕ) (xs : Rows) (side l p : ℕ) → Only (between 1 5) (lookup_verdict n ls xs side l p)
lookup_numbers n ls xs side l p = only_then (only_if _ 1 0 refl) (only_then (only_if _ 2 0 refl) (only_then (only_if _ 3 0 refl) (only_then (only_if _ 3 0 refl)
    (only_if _ 5 0 refl))))

pub choice_numbers : (n : ℕ) (cs : Columns) (m k : ℕ) → Only open_number (verdict_of (choice_call n cs m k))
unfolding choice_call
choice_numbers n cs m k = rw (verdict_replied (choice_verdict n cs m k) (choice n (edges_of cs m) k)) (only_bare refl refl refl n cs m (only_if _ 3 0 refl))

-- ---- a query

pub asked_numbers : (n : ℕ) (ls : List ℕ) (w : Network) (q : Query) (a b : ℕ) → Only (between 1 6) (query_faults n ls w q a b)
unfolding query_faults
asked_numbers n ls w q a b = only_then (only_if _ 1 0 refl) (only_then (only_if _ 1 0 refl) (only_then (only_if _ 2 0 refl) (only_then (only_if _ 2 0 refl)
    (only_then (only_if _ 2 0 refl) (only_then (only_if _ 3 0 refl) (only_then (only_table refl n w.memory.table w.count)
    (only_then (only_if _ 5 0 refl) (only_then (only_if _ 6 0 refl) (only_scheduled refl n 0 q.schedule)))))))))

pub any_query_numbers : (n : ℕ) (ls : List ℕ) (w : Network) → FitList w.memory.rows.forward → FitList w.memory.rows.backward → (q : Query) (out : Words)
    → Only (between 1 6) (verdict_of (query_call n ls w q out).reply)
unfolding query_call
any_query_numbers n ls w f g q out =
    rw (verdict_replied (query_verdict n ls w q out) (at_end n ls w q).tally ∙ query_verdict_lem n ls w q out f g) (asked_numbers n ls w q (length out.starts) (length out.settled))

pub any_query_never : AnyQueryNever
any_query_never n ls w f g q out = others _ refl (any_query_numbers n ls w f g q out)

-- ---- words of 32 bits, list by list

append_fits : (xs ys : List ℕ) → FitList xs → FitList ys → FitList (xs ++ ys)
append_fits [] ys h k i = k i
append_fits (x ∷ xs) ys h k zero = h 0
append_fits (x ∷ xs) ys h k (suc i) = append_fits xs ys (λ j. h (suc j)) k i

over_fits : (xs ys : List ℕ) → FitList xs → FitList ys → FitList (over xs ys)
over_fits xs ys h k = append_fits xs (drop (length xs) ys) h (λ i. rw (get_or-drop (length xs) ys i 0) (k (length xs + i)))

flat_fits : (f : ℕ → State) (rs : List ℕ) → ((r : ℕ) → FitList (f r).words) → FitList (flat (map f rs))
unfolding flat
flat_fits f [] h i = omega arith
flat_fits f (r ∷ rs) h i = append_fits (f r).words (flat (map f rs)) (h r) (flat_fits f rs h) i

words_fit : (n : ℕ) (st : State) → FitWords n st → FitList st.words
words_fit n st g t = let z = g.words in elim (dec_lt t n) [ yes h ↦ g.fits t h | no d ↦ rw (get_or-eq_default st.words 0 {n = t} (omega arith)) (omega arith) ]

-- es are the edges before the batch and fs those after it
left_fits : (n : ℕ) (ls : List ℕ) (es fs : List Edge) → Within n fs → (xs : List ℕ) → FitList xs → FitList (over (flat (batch_rows n ls es fs xs)) xs)
left_fits n ls es fs h xs k = over_fits (flat (batch_rows n ls es fs xs)) xs
    (flat_fits (batch_row n ls es fs xs) (rows_of ls) (λ r. words_fit n (batch_row n ls es fs xs r)
    (settle_words (property_laws (suc (r % properties))) fs n h n _
    (prepared_words (property_laws (suc (r % properties))) es fs (landmark_of ls r) n (row n r xs) (row_fits (suc (r % properties)) n r xs k)))))
    k

-- ---- a batch

choose_either : {A : Type 0} (Q : A → Type 0) (v : Verdict) {new old : A} → (v ≡ accept → Q new) → Q old → Q (choose v new old)
unfolding choose
choose_either Q accept f q = f refl
choose_either Q (refuse k i) f q = q

module _ (n : ℕ) (ls : List ℕ) (w : Network) (b : List Change) where
  -- the edges after a batch that numbers 1 to 12 let pass lie within the vertices
  new_within : batch_faults n ls w (length b) ≡ accept → items n 0 (edges_in w) b ≡ accept → Within n (new_edges w b)
  unfolding batch_faults turned_back
  new_within e i =
      let z = then_accept (long_batch (length b)) (faults n ls w) e in
      within n (new_edges w b) (edits_good n ls w b z.1 (accept_then z.0 ∙ i)).0

  module _ (forward : FitList w.memory.rows.forward) (backward : FitList w.memory.rows.backward) where
    pub any_batch_numbers : Only (between 1 12) (verdict_of (batch_call n ls w b).reply)
    unfolding batch_call batch_faults
    any_batch_numbers = rw (verdict_replied (batch_verdict n ls w b) _)
        (only_after (only_then (only_if _ 1 0 refl) (only_more (wider {a = 1} {b = 4} (omega arith) (omega arith)) (faults_numbers n ls w)))
        (λ e. only_after (only_more (wider {a = 6} {b = 12} (omega arith) (omega arith)) (only_items n 0 (edges_in w) b))
        (λ i. only_accept (still_waiting_lem n ls w (new_edges w b) (new_within e i) forward backward))))

    -- the words of the row lists after it are of 32 bits
    pub batch_fits : let xs = (batch_call n ls w b).memory.rows in FitList xs.forward × FitList xs.backward
    unfolding batch_call
    batch_fits = choose_either {A = Memory} (λ m. FitList m.rows.forward × FitList m.rows.backward) (batch_verdict n ls w b)
        (λ v. let z = then_accept (batch_faults n ls w (length b)) _ v in
        let h = new_within z.0 (then_accept (items n 0 (edges_in w) b) _ z.1).0 in (
          left_fits n ls (edges_in w) (new_edges w b) h w.memory.rows.forward forward,
          left_fits n ls (map reverse (edges_in w)) (map reverse (new_edges w b)) (within_reverse n (new_edges w b) h) w.memory.rows.backward backward,
        ))
        (forward, backward)

pub any_batch_never : AnyBatchNever
any_batch_never n ls w f g b = others _ refl (any_batch_numbers n ls w b f g)
