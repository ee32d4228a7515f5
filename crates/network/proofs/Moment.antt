-- What an opening brings about and every batch keeps: the network's invariant. Assumes nothing.
--
--   Good n ls w   == the invariant: no call refuses w for its size, lists, landmarks or table, and its rows hold best words
--   Step n ls w b == what the batch b does to w: the invariant stays, the edges are those after b, and what demand 3 says of it
use Rattle.property.proofs.Basics.{◌≡◌, refl, sym, ap, ◌∙◌, ◌||◌, false, List, [], ◌∷◌, map, ℕ, suc, ◌%◌, ◌≤◌, arith, length}
use Rattle.property.specs.Property.{properties}
use Rattle.property.proofs.Instances.{property_laws}
use Rattle.graph.specs.Limits.{max_edges}
use Rattle.graph.specs.Refusal.{Verdict, accept, refuse, accepted, refused, ◌▷◌, refuse_if, replied, verdict_of, choose, Outcome, outcome}
use Rattle.graph.specs.Edge.{Edge, reverse}
use Rattle.graph.specs.Table.{size, short_table, table}
use Rattle.graph.proofs.Tests.{or_false}
use Rattle.graph.proofs.Verdicts.{then_accept, accept_then, refuse_then, accept_if, then_same, then_assoc, not_accept, verdict_replied, reply_accepted, choose_accept}
use Rattle.graph.proofs.Order.{Sound, Within, within}
use Rattle.theory.proofs.Reverse.{within_reverse}
use Rattle.network.specs.Network.{Memory, Network, edges_in, short_rows, landmarks, faults, rows_of, unsettled, stores_of}
use Rattle.network.specs.Open.{open_row, open_rows, open_verdict, open_memory, open_call}
use Rattle.network.specs.Change.{Change, items}
use Rattle.network.specs.Batch.{batch_row, affected_of, Report, new_edges, new_forward, new_backward, still_waiting, long_batch, batch_faults, batch_verdict, batch_memory, report, batch_call}
use Rattle.network.specs.Caller.{opened_network, reported, hand_on, lived}
use Rattle.network.specs.Current.{turned_back, after, current}
use Rattle.network.specs.History.{Unworse, Reported, BatchHolds, moment, edges_now}
use Rattle.network.proofs.Items.{items_good, table_sound, accept_table, table_count, rewritten_edges, rewritten_long}
use Rattle.network.proofs.Reports.{rows_affected, rows_stores}
use Rattle.network.proofs.Rows.{rows_long, open_sized, batch_sized, RowsBest, open_best, batch_rests, batch_best, batch_unworse}

-- ---- the invariant

pub record Good (n : ℕ) (ls : List ℕ) (w : Network) : Type 0 where
  pub sized : size n ≡ accept
  pub roomy : short_table w.memory.table ≡ accept
  pub long : short_rows n ls w.memory.rows ≡ accept
  pub chosen : landmarks n ls ≡ accept
  pub sound : table n w.memory.table w.count ≡ accept
  pub forward : RowsBest n ls (edges_in w) w.memory.rows.forward
  pub backward : RowsBest n ls (map reverse (edges_in w)) w.memory.rows.backward

pub good_within : (n : ℕ) (ls : List ℕ) (w : Network) → Good n ls w → Within n (edges_in w)
good_within n ls w g = within n (edges_in w) (table_sound n w.memory.table w.count g.sound).1

pub good_count : (n : ℕ) (ls : List ℕ) (w : Network) → Good n ls w → length (edges_in w) ≡ w.count
good_count n ls w g = table_count w.memory.table w.count g.roomy (table_sound n w.memory.table w.count g.sound).0

-- ---- the opening

-- numbers 1 to 4, one by one
pub faults_parts : (n : ℕ) (ls : List ℕ) (w : Network) → faults n ls w ≡ accept
    → (size n ≡ accept) × (short_table w.memory.table ≡ accept) × (short_rows n ls w.memory.rows ≡ accept) × (landmarks n ls ≡ accept)
    × (table n w.memory.table w.count ≡ accept)
faults_parts n ls w h =
    let a = then_accept (size n) _ h in
    let b = then_accept (short_table w.memory.table) _ a.1 in
    let c = then_accept (short_rows n ls w.memory.rows) _ b.1 in
    let d = then_accept (landmarks n ls) (table n w.memory.table w.count) c.1 in
    (a.0, b.0, c.0, d.0, d.1)

-- .. and back
pub good_faults : (n : ℕ) (ls : List ℕ) (w : Network) → Good n ls w → faults n ls w ≡ accept
good_faults n ls w g = accept_then g.sized ∙ accept_then g.roomy ∙ accept_then g.long ∙ accept_then g.chosen ∙ g.sound

module _ (n : ℕ) (ls : List ℕ) (w : Network) where
  abbrev begun : Memory → Network
  begun m = record { memory = m; count = w.count }

  open_good : open_verdict n ls w ≡ accept → Good n ls (begun (open_memory n ls w))
  open_good h =
      let o = faults_parts n ls w (then_accept (faults n ls w) (refuse_if (unsettled (open_rows n ls (edges_in w)) || unsettled (open_rows n ls (map reverse (edges_in w)))) 13 0) h).0 in
      let i = within n (edges_in w) (table_sound n w.memory.table w.count o.4).1 in
      record {
        sized = o.0;
        roomy = o.1;
        long = rows_long n ls (open_row n ls (edges_in w)) (open_row n ls (map reverse (edges_in w))) (open_sized n ls (edges_in w))
            (open_sized n ls (map reverse (edges_in w))) w.memory.rows o.2;
        chosen = o.3;
        sound = o.4;
        forward = open_best n ls o.3 (edges_in w) i w.memory.rows.forward;
        backward = open_best n ls o.3 (map reverse (edges_in w)) (within_reverse n (edges_in w) i) w.memory.rows.backward;
      }

  -- An accepted opening brings the invariant about. As it was accepted, size, lists, landmarks and table are as they must be. It leaves
  -- the table as it is, so the edges too, and writes rows of best words into the row lists, which stay as long as they were.
  pub opens : verdict_of (open_call n ls w).reply ≡ accept → Good n ls (opened_network n ls w) × (edges_in (opened_network n ls w) ≡ edges_in w)
  unfolding open_call
  opens h =
      let v : open_verdict n ls w ≡ accept = sym (verdict_replied (open_verdict n ls w) tt) ∙ h in
      let e = choose_accept (open_memory n ls w) w.memory v in
      (rw e (open_good v), ap (λ m. edges_in (begun m)) e)

-- ---- a batch on a network that numbers 1 to 4 let pass, whatever words its rows hold

module _ (n : ℕ) (ls : List ℕ) (w : Network) (b : List Change) (h : faults n ls w ≡ accept) where
  -- of the call's refusals those are left that document 01 has for a batch, and 13
  pub batch_own : batch_verdict n ls w b ≡ (turned_back n (edges_in w) b ▷ still_waiting n ls w (new_edges w b))
  unfolding turned_back batch_faults
  batch_own = then_assoc (long_batch (length b)) _ _ ∙ then_same (long_batch (length b)) (λ _. accept_then h)
      ∙ sym (then_assoc (long_batch (length b)) (items n 0 (edges_in w) b) _)

  -- the network after it, where it is accepted
  abbrev pub batched : Network
  batched = record { memory = batch_memory n ls w (new_edges w b); count = length (new_edges w b) }

  module _ (e : turned_back n (edges_in w) b ≡ accept) where
    pub edits_good : Sound n (new_edges w b) × (length (new_edges w b) ≤ max_edges)
    unfolding turned_back
    edits_good =
        let o = faults_parts n ls w h in
        let z = then_accept (long_batch (length b)) (items n 0 (edges_in w) b) e in
        let y = table_sound n w.memory.table w.count o.4 in
        items_good n 0 (edges_in w) b z.1 y.1 (rw (table_count w.memory.table w.count o.1 y.0) y.0)

    -- its lists are as long as before, and its table holds the new edges, which keep the rules
    pub batched_faults : faults n ls batched ≡ accept
    batched_faults =
        let o = faults_parts n ls w h in
        let fs = new_edges w b in
        accept_then o.0
        ∙ accept_then (rewritten_long fs edits_good.1 w.memory.table o.1)
        ∙ accept_then (rows_long n ls (batch_row n ls (edges_in w) fs w.memory.rows.forward) (batch_row n ls (map reverse (edges_in w)) (map reverse fs) w.memory.rows.backward)
        (batch_sized n ls (edges_in w) fs w.memory.rows.forward) (batch_sized n ls (map reverse (edges_in w)) (map reverse fs) w.memory.rows.backward) w.memory.rows o.2)
        ∙ accept_then o.3
        ∙ accept_table n batched.memory.table (length fs) edits_good.1 (rw (rewritten_edges fs w.memory.table) edits_good.0)

-- ---- a batch on one that keeps the invariant

pub record Step (n : ℕ) (ls : List ℕ) (w : Network) (b : List Change) : Type 0 where
  pub kept : Good n ls (hand_on w (batch_call n ls w b))
  pub moved : edges_in (hand_on w (batch_call n ls w b)) ≡ after n (edges_in w) b
  pub applied : BatchHolds n ls (edges_in w) w b

module _ (n : ℕ) (ls : List ℕ) (w : Network) (b : List Change) (g : Good n ls w) where
  -- the edges before and after the batch, and the rows before it
  abbrev es : List Edge
  es = edges_in w

  abbrev fs : List Edge
  fs = new_edges w b

  abbrev ahead : List ℕ
  ahead = w.memory.rows.forward

  abbrev back : List ℕ
  back = w.memory.rows.backward

  -- its outcome under the verdict v
  abbrev out : Verdict → Outcome Report Memory
  out v = outcome v (report n ls w fs) (batch_memory n ls w fs) w.memory

  judged : batch_verdict n ls w b ≡ (turned_back n es b ▷ still_waiting n ls w fs)
  judged = batch_own n ls w b (good_faults n ls w g)

  refused_kept : (v : Verdict) (k i : ℕ) → (out v).reply ≡ refused k i → hand_on w (out v) ≡ w
  unfolding replied choose reported
  refused_kept accept k i r = let z : ◌≡◌ {A = ℕ} 0 1 = cc in absurd (omega arith)
  refused_kept (refuse j p) k i r = refl

  -- one step under the verdict v, from what the lists are under it
  stepped : (v : Verdict) → turned_back n es b ≡ v → batch_verdict n ls w b ≡ v
      → Good n ls (hand_on w (out v)) → edges_in (hand_on w (out v)) ≡ choose v fs es
      → Unworse n ls es (choose v fs es) ahead (out v).memory.rows.forward
      → Unworse n ls (map reverse es) (map reverse (choose v fs es)) back (out v).memory.rows.backward
      → ((r : Report) → (out v).reply ≡ accepted r → Reported n ls es (choose v fs es) w r)
      → Step n ls w b
  unfolding batch_call after
  stepped v e c good moved forward backward reports =
      record {
        kept = rw c good;
        moved = rw (c, e) moved;
        applied = record {
          judged = rw (c, e) (verdict_replied v (report n ls w fs));
          kept = λ k i r. rw c (refused_kept v k i (rw c at r));
          forward = rw (c, e) forward;
          backward = rw (c, e) backward;
          reported = λ r q. rw e (reports r (rw c at q));
        };
      }

  -- ---- refused

  unworse : (xs : List ℕ) (ds hs : List Edge) → Unworse n ls ds hs xs xs
  unworse xs ds hs r t h q a = (property_laws (suc (r % properties))).irreflexive _

  refused_step : (k i : ℕ) → turned_back n es b ≡ refuse k i → Step n ls w b
  unfolding replied choose reported
  refused_step k i e = stepped (refuse k i) e (judged ∙ refuse_then _ _ e) g refl (unworse ahead es es) (unworse back (map reverse es) (map reverse es))
      (λ r q. absurd (not_accept (reply_accepted (refuse k i) (report n ls w fs) r q).0))

  -- ---- accepted

  module _ (e : turned_back n es b ≡ accept) where
    old_in : Within n es
    old_in = good_within n ls w g

    new_in : Within n fs
    new_in = within n fs (edits_good n ls w b (good_faults n ls w g) e).0

    old_back : Within n (map reverse es)
    old_back = within_reverse n es old_in

    new_back : Within n (map reverse fs)
    new_back = within_reverse n fs new_in

    rests_ahead : unsettled (new_forward n ls w fs) ≡ false
    rests_ahead = batch_rests n ls g.chosen es fs old_in new_in ahead g.forward

    rests_back : unsettled (new_backward n ls w fs) ≡ false
    rests_back = batch_rests n ls g.chosen (map reverse es) (map reverse fs) old_back new_back back g.backward

    abbrev next : Network
    next = batched n ls w b (good_faults n ls w g)

    read : edges_in next ≡ fs
    read = rewritten_edges fs w.memory.table

    next_good : Good n ls next
    next_good =
        let o = faults_parts n ls next (batched_faults n ls w b (good_faults n ls w g) e) in
        record {
          sized = o.0;
          roomy = o.1;
          long = o.2;
          chosen = o.3;
          sound = o.4;
          forward = rw read (batch_best n ls g.chosen es fs old_in new_in ahead g.forward);
          backward = rw read (batch_best n ls g.chosen (map reverse es) (map reverse fs) old_back new_back back g.backward);
        }

    reports : Reported n ls es fs w (report n ls w fs)
    reports = record {
      ahead = affected_of n ls es fs ahead;
      back = affected_of n ls (map reverse es) (map reverse fs) back;
      forward = rows_affected n ls es fs ahead old_in (rows_of ls);
      backward = rows_affected n ls (map reverse es) (map reverse fs) back old_back (rows_of ls);
      total = refl;
      stores_ahead = stores_of (new_forward n ls w fs);
      stores_back = stores_of (new_backward n ls w fs);
      forward_runs = rows_stores n ls es fs ahead (rows_of ls) old_in rests_ahead;
      backward_runs = rows_stores n ls (map reverse es) (map reverse fs) back (rows_of ls) old_back rests_back;
      stores = refl;
      count = refl;
    }

    accepted_step : Step n ls w b
    unfolding replied choose reported
    accepted_step = stepped accept e (judged ∙ accept_then e ∙ accept_if 13 0 (or_false rests_ahead rests_back)) next_good read
        (batch_unworse n ls g.chosen es fs old_in new_in ahead g.forward)
        (batch_unworse n ls g.chosen (map reverse es) (map reverse fs) old_back new_back back g.backward)
        (λ r q. rw (reply_accepted accept (report n ls w fs) r q).1 at reports)

  under : (v : Verdict) → turned_back n es b ≡ v → Step n ls w b
  under accept e = accepted_step e
  under (refuse k i) e = refused_step k i e

  -- A batch keeps the invariant. As it holds before, the call refuses for nothing but what document 01 has for a batch on these edges, or
  -- for 13. Refused, all stays as it was. Accepted, the new edges keep the table's rules, and they are read back from the lists that were
  -- written. In no row anything waits after n rounds, so 13 does not come. From best words of the old edges come best words of the new,
  -- and none is worse that is not affected.
  pub steps : Step n ls w b
  steps = under (turned_back n es b) refl

-- ---- a list of batches

lived_good : (n : ℕ) (ls : List ℕ) (bs : List (List Change)) (w : Network) (es : List Edge) → Good n ls w → edges_in w ≡ es
    → Good n ls (lived n ls w bs) × (edges_in (lived n ls w bs) ≡ current n es bs)
lived_good n ls [] w es g e = (g, e)
lived_good n ls (b ∷ bs) w es g e =
    let z = steps n ls w b g in
    lived_good n ls bs (hand_on w (batch_call n ls w b)) (after n es b) z.kept (z.moved ∙ ap (λ x. after n x b) e)

-- At any moment after an accepted opening the invariant holds, and the edges in the table are the network as it is now. Both go by
-- induction along the batches: what a call reads from the table before a batch is the network as it then is, so it judges and changes
-- the same list of edges as `current` does.
pub moment_good : (n : ℕ) (ls : List ℕ) (w : Network) → verdict_of (open_call n ls w).reply ≡ accept → (bs : List (List Change))
    → Good n ls (moment n ls w bs) × (edges_in (moment n ls w bs) ≡ edges_now n w bs)
moment_good n ls w h bs = let z = opens n ls w h in lived_good n ls bs (opened_network n ls w) (edges_in w) z.0 z.1
