-- Two networks that no call can tell apart: a batch and a query go by the edges, the count and the rows, and by nothing that lies past them in the
-- lists. Assumes nothing.
--
--   SameRows n ls xs ys == the row lists xs and ys have the same rows
--   Alike n ls w v      == v has the edges, the count and the rows of w, and numbers 1 to 4 let it pass; lists past these may differ
use Rattle.property.proofs.Basics.{◌≡◌, refl, sym, ap, ◌∙◌, subst, ap₂, ◌||◌, List, [], ◌∷◌, map, Memᴰ, Memᴰ-head, Memᴰ-tail, ℕ, ◌+◌, ◌<◌, arith, length, get_or}
use Rattle.frontier.specs.Waiting.{any_of, count_of}
use Rattle.graph.specs.Refusal.{Verdict, accept, refuse, ◌▷◌, refuse_if, accepted, replied, outcome, over}
use Rattle.graph.specs.Edge.{Edge, reverse, range}
use Rattle.graph.proofs.Lists.{range_below}
use Rattle.graph.proofs.Verdicts.{then_accept, refuse_then, reply_accepted, outcome_refused, outcome_accepted}
use Rattle.run.specs.Run.{word, pass, settle}
use Rattle.run.specs.Start.{asked}
use Rattle.network.specs.Network.{Network, edges_in, faults, row_count, row, rows_of, flat, unsettled, stores_of}
use Rattle.network.specs.Query.{Query, Words, row_at, asks, at_start, at_end, query_faults, query_verdict, answered, query_call}
use Rattle.network.specs.Change.{Change, edits}
use Rattle.network.specs.Batch.{row_affected, row_end, batch_row, batch_rows, affected_over, affected_of, Report, new_edges, new_forward, new_backward, batch_verdict, batch_memory, report, batch_call}
use Rattle.network.specs.Caller.{reported, hand_on}
use Rattle.network.specs.Current.{turned_back}
use Rattle.network.proofs.Items.{rewritten_edges}
use Rattle.network.proofs.Rows.{row_over, batch_sized}
use Rattle.network.proofs.Moment.{batch_own, batched, batched_faults}
use Rattle.network.proofs.Query.{query_own, query_request}

abbrev pub SameRows : ℕ → List ℕ → List ℕ → List ℕ → Type 0
SameRows n ls xs ys = (r : ℕ) → r < row_count ls → row n r ys ≡ row n r xs

pub record Alike (n : ℕ) (ls : List ℕ) (w v : Network) : Type 0 where
  pub edges : edges_in v ≡ edges_in w
  pub count : v.count ≡ w.count
  pub forward : SameRows n ls w.memory.rows.forward v.memory.rows.forward
  pub backward : SameRows n ls w.memory.rows.backward v.memory.rows.backward
  pub passes : faults n ls v ≡ accept

pub map_alike : {A : Type 0} (f g : ℕ → A) (rs : List ℕ) → ((r : ℕ) → Memᴰ r rs → f r ≡ g r) → map f rs ≡ map g rs
map_alike f g [] h = refl
map_alike {A} f g (r ∷ rs) h = ap₂ {C = List A} ◌∷◌ (h r (Memᴰ-head refl)) (map_alike f g rs (λ x m. h x (Memᴰ-tail m)))

-- ---- a query

module _ (n : ℕ) (ls : List ℕ) (w v : Network) (h : faults n ls w ≡ accept) (a : Alike n ls w v) (q : Query) (out : Words) where
  abbrev judged : Network → Verdict
  judged u = query_faults n ls u q (length out.starts) (length out.settled)

  -- before the run both are judged by what is asked alone
  same_judged : judged v ≡ judged w
  same_judged = query_own n ls v q _ _ a.passes ∙ sym (query_own n ls w q _ _ h)

  -- it reads the rows of the property that is asked
  same_start : judged w ≡ accept → at_start n ls v q ≡ at_start n ls w q
  same_start e = ap (λ ks. asked (asks n ls w q) ks n q.source) (map_alike _ _ (range 0 (length ls)) (λ i m.
      let k : row_at i q.property < row_count ls = let y = (query_request n ls w q _ _ e).1 in let z = range_below 0 (length ls) i m in omega arith in
      ap₂ (λ ys xs. record { vertex = get_or ls i 0; into = word (asks n ls w q) ys q.source; row = xs }) (a.backward _ k) (a.forward _ k)))

  same_end : judged w ≡ accept → at_end n ls v q ≡ at_end n ls w q
  same_end e = ap₂ (λ es st. settle (asks n ls w q) es n n (pass (asks n ls w q) es q.schedule st)) a.edges (same_start e)

  under : (f : Verdict) → judged w ≡ f → query_call n ls v q out ≡ query_call n ls w q out
  unfolding query_call
  under accept e = λ i. outcome (same_judged i ▷ refuse_if (any_of (same_end e i).waiting) 13 0) (same_end e i).tally
      (record { starts = over (same_start e i).words out.starts; settled = over (same_end e i).words out.settled }) out
  under (refuse k i) e =
      outcome_refused (query_verdict n ls v q out) _ (answered n ls v q out) out (refuse_then (judged v) _ (same_judged ∙ e))
      ∙ sym (outcome_refused (query_verdict n ls w q out) _ (answered n ls w q out) out (refuse_then (judged w) _ e))

  pub query_alike : query_call n ls v q out ≡ query_call n ls w q out
  query_alike = under (judged w) refl

-- ---- a batch

-- the rows of one side, where es are the edges before the batch and fs those after it
module _ (n : ℕ) (ls : List ℕ) (es fs : List Edge) (xs ys : List ℕ) (same : SameRows n ls xs ys) where
  same_row : (r : ℕ) → r < row_count ls → batch_row n ls es fs ys r ≡ batch_row n ls es fs xs r
  same_row r h = ap (λ vs. row_end n ls es fs vs r) (same r h)

  below : (r : ℕ) → Memᴰ r (rows_of ls) → r < row_count ls
  below r m = let z = range_below 0 (row_count ls) r m in omega arith

  same_rows : batch_rows n ls es fs ys ≡ batch_rows n ls es fs xs
  same_rows = map_alike _ _ (rows_of ls) (λ r m. same_row r (below r m))

  same_over : (rs : List ℕ) → ((r : ℕ) → Memᴰ r rs → r < row_count ls) → affected_over n ls es fs ys rs ≡ affected_over n ls es fs xs rs
  unfolding affected_over
  same_over [] k = refl
  same_over (r ∷ rs) k =
      ap₂ ◌+◌ (ap (λ vs. count_of (row_affected n ls es fs vs r)) (same r (k r (Memᴰ-head refl)))) (same_over rs (λ x m. k x (Memᴰ-tail m)))

  same_affected : affected_of n ls es fs ys ≡ affected_of n ls es fs xs
  same_affected = same_over (rows_of ls) below

  -- row r of what is written
  same_written : (r : ℕ) → r < row_count ls
      → row n r (over (flat (batch_rows n ls es fs ys)) ys) ≡ row n r (over (flat (batch_rows n ls es fs xs)) xs)
  same_written r h =
      row_over n (batch_row n ls es fs ys) (batch_sized n ls es fs ys) (row_count ls) r ys h
      ∙ ap (λ st. st.words) (same_row r h)
      ∙ sym (row_over n (batch_row n ls es fs xs) (batch_sized n ls es fs xs) (row_count ls) r xs h)

module _ (n : ℕ) (ls : List ℕ) (w : Network) (h : faults n ls w ≡ accept) (b : List Change) (r : Report) (e : (batch_call n ls w b).reply ≡ accepted r) where
  taken : batch_verdict n ls w b ≡ accept
  unfolding batch_call
  taken = (reply_accepted (batch_verdict n ls w b) (report n ls w (new_edges w b)) r e).0

  -- an accepted batch hands on the network after it ..
  handed : hand_on w (batch_call n ls w b) ≡ batched n ls w b h
  unfolding batch_call reported
  handed = ap (hand_on w) (outcome_accepted (batch_verdict n ls w b) (report n ls w (new_edges w b)) (batch_memory n ls w (new_edges w b)) w.memory taken)

  passing : faults n ls (batched n ls w b h) ≡ accept
  passing = batched_faults n ls w b h (then_accept (turned_back n (edges_in w) b) _ (sym (batch_own n ls w b h) ∙ taken)).0

  -- .. which numbers 1 to 4 let pass, whatever words its rows hold
  pub applied_faults : faults n ls (hand_on w (batch_call n ls w b)) ≡ accept
  applied_faults = subst (λ u. faults n ls u ≡ accept) (sym handed) passing

module _ (n : ℕ) (ls : List ℕ) (w v : Network) (h : faults n ls w ≡ accept) (a : Alike n ls w v) (b : List Change) where
  abbrev es : List Edge
  es = edges_in w

  abbrev fs : List Edge
  fs = new_edges w b

  same_edits : new_edges v b ≡ fs
  same_edits = ap (λ x. edits x b) a.edges

  -- both sides, from v to w
  same_ahead : new_forward n ls v (new_edges v b) ≡ new_forward n ls w fs
  same_ahead = rw a.edges (same_rows n ls es fs _ _ a.forward)

  same_back : new_backward n ls v (new_edges v b) ≡ new_backward n ls w fs
  same_back = rw a.edges (same_rows n ls (map reverse es) (map reverse fs) _ _ a.backward)

  affected_ahead : affected_of n ls (edges_in v) (new_edges v b) v.memory.rows.forward ≡ affected_of n ls es fs w.memory.rows.forward
  affected_ahead = rw a.edges (same_affected n ls es fs _ _ a.forward)

  affected_back : affected_of n ls (map reverse (edges_in v)) (map reverse (new_edges v b)) v.memory.rows.backward
      ≡ affected_of n ls (map reverse es) (map reverse fs) w.memory.rows.backward
  affected_back = rw a.edges (same_affected n ls (map reverse es) (map reverse fs) _ _ a.backward)

  same_report : report n ls v (new_edges v b) ≡ report n ls w fs
  same_report i = record {
    count = length (same_edits i);
    affected = affected_ahead i + affected_back i;
    stores = stores_of (same_ahead i) + stores_of (same_back i);
  }

  same_reply : (batch_call n ls v b).reply ≡ (batch_call n ls w b).reply
  unfolding batch_call
  same_reply = ap₂ replied
      (batch_own n ls v b a.passes ∙ (λ i. turned_back n (a.edges i) b ▷ refuse_if (unsettled (same_ahead i) || unsettled (same_back i)) 13 0) ∙ sym (batch_own n ls w b h))
      same_report

  handed_alike : (r : Report) → (batch_call n ls w b).reply ≡ accepted r → Alike n ls (hand_on w (batch_call n ls w b)) (hand_on v (batch_call n ls v b))
  handed_alike r e = rw (handed n ls w h b r e, handed n ls v a.passes b r (same_reply ∙ e)) (record {
    edges = rewritten_edges (new_edges v b) v.memory.table ∙ same_edits ∙ sym (rewritten_edges fs w.memory.table);
    count = ap length same_edits;
    forward = λ r k. rw a.edges (same_written n ls es fs _ _ a.forward r k);
    backward = λ r k. rw a.edges (same_written n ls (map reverse es) (map reverse fs) _ _ a.backward r k);
    passes = passing n ls v a.passes b r (same_reply ∙ e);
  })

  pub batch_alike : ((batch_call n ls v b).reply ≡ (batch_call n ls w b).reply)
      × ((r : Report) → (batch_call n ls w b).reply ≡ accepted r → Alike n ls (hand_on w (batch_call n ls w b)) (hand_on v (batch_call n ls v b)))
  batch_alike = (same_reply, handed_alike)
