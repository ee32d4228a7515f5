-- A replay as a call: which changes a batch has, what is left of the batches after one, and the opening's part in the reply. Assumes nothing.
use Rattle.property.proofs.Basics.{◌≡◌, sym, ap, subst, ◌∙◌, List, [], ◌∷◌, append-nil, ℕ, ◌+◌, ◌-◌, ◌≤◌, ◌<◌, add-zero, zero-add, add-one, arith, length, get_or, take, drop, drop_of_length-le, drop-cons}
use Rattle.std.specs.Prelude.{Result, Ok, Err}
use Rattle.graph.specs.declared.refusal.Refusal.{Refusal}
use Rattle.graph.specs.Code.{number, place, reply_of}
use Rattle.graph.specs.Refusal.{accept, refuse, accepted, refused, verdict_of, choose, Outcome}
use Rattle.graph.proofs.Verdicts.{verdict_replied, reply_accepted, outcome_refused, outcome_accepted}
use Rattle.network.specs.Network.{Memory, Network, edges_in, faults}
use Rattle.network.specs.Open.{open_verdict, open_memory, open_call}
use Rattle.network.specs.Change.{Change}
use Rattle.network.specs.Batch.{batch_call}
use Rattle.network.specs.Caller.{opened_network, reported, hand_on, lived}
use Rattle.network.specs.Current.{turned_back, after}
use Rattle.network.specs.History.{Holds, moment, edges_now, Past}
use Rattle.network.proofs.Moment.{Good, opens, steps}
use Rattle.network.proofs.Never.{open_judged}
use Rattle.network.proofs.History.{history}
use Rattle.calls.specs.Code.{lists, network}
use Rattle.apply.specs.declared.Report.{Report}
use Rattle.apply.specs.Code.{batch_outcome}
use Rattle.open.specs.Code.{open_outcome}
use Rattle.replay.specs.declared.Summary as declared
use Rattle.replay.specs.Replay.{Summary, batches_from, accepted_of, replay_call}
use Rattle.replay.specs.Code.{summary_of, replay_outcome, carried, AtExit}

-- ---- which changes a batch has

pub batches_more : (a : ℕ) (ends : List ℕ) (i : ℕ) (cs : List Change) → i < length ends
    → batches_from a (drop i ends) cs ≡ take (get_or ends i 0 - a) (drop a cs) ∷ batches_from (get_or ends i 0) (drop (i + 1) ends) cs
unfolding batches_from
batches_more a ends i cs l = rw (drop-cons ends i 0 l, add-one)

pub batches_none : (a : ℕ) (ends : List ℕ) (i : ℕ) (cs : List Change) → length ends ≤ i → batches_from a (drop i ends) cs ≡ []
unfolding batches_from
batches_none a ends i cs l = rw (drop_of_length-le ends {i = i} l)

-- ---- what is left of the batches after one

module _ (n : ℕ) (ls : List ℕ) (w : Network) (k : ℕ) (b : List Change) (bs cs : List (List Change)) (e : bs ≡ b ∷ cs) {z : Outcome Summary Memory} (h : carried n ls w k bs ≡ z) where
  carried_on : (v : Network) (j : ℕ) → v ≡ hand_on w (batch_call n ls w b) → j ≡ k + choose (verdict_of (batch_call n ls w b).reply) 1 0 → carried n ls v j cs ≡ z
  unfolding carried
  carried_on v j p q = rw (p, q) (rw e at h)

  module _ (ts hs ws f g : List ℕ) where
    pub carried_done : (q : Result Report Refusal) (r : Report) → q ≡ Ok r → batch_outcome q ts hs ws f g ≡ batch_call n ls w b
        → (m j : ℕ) → m ≡ r.count → j ≡ k + 1 → carried n ls (network ts hs ws f g m) j cs ≡ z
    unfolding reply_of reported verdict_of choose
    carried_done q r d o m j c a =
        let p : batch_outcome (Ok r) ts hs ws f g ≡ batch_call n ls w b = rw d at o in
        rw (c, a) (carried_on _ _ (ap (λ x. hand_on w x) p) (ap (λ x. k + choose (verdict_of x.reply) 1 0) p))

    pub carried_refused : (q : Result Report Refusal) (u : Refusal) → q ≡ Err u → batch_outcome q ts hs ws f g ≡ batch_call n ls w b
        → (m j : ℕ) → m ≡ w.count → j ≡ k → carried n ls (network ts hs ws f g m) j cs ≡ z
    unfolding reply_of reported verdict_of choose
    carried_refused q u d o m j c a =
        let p : batch_outcome (Err u) ts hs ws f g ≡ batch_call n ls w b = rw d at o in
        rw (c, a) (carried_on _ _ (ap (λ x. hand_on w x) p) (sym (add-zero k) ∙ ap (λ x. k + choose (verdict_of x.reply) 1 0) p))

pub carried_none : (n : ℕ) (ls ts hs ws f b : List ℕ) (m k : ℕ) (bs : List (List Change)) {z : Outcome Summary Memory} → bs ≡ []
    → carried n ls (network ts hs ws f b m) k bs ≡ z → replay_outcome (Ok (record { count = m; accepted_batches = k })) ts hs ws f b ≡ z
unfolding carried reply_of
carried_none n ls ts hs ws f b m k bs e h = rw e at h

-- On a network that keeps the invariant each call accepts the batches that "Turned back" accepts on its edges, and hands on the edges
-- after it, so that the calls accept as many batches as are reckoned from the edges and the change records alone.
carried_good : (n : ℕ) (ls : List ℕ) (w : Network) (k : ℕ) (bs : List (List Change)) → Good n ls w
    → carried n ls w k bs ≡ record {
      reply = accepted (record { count = (lived n ls w bs).count; accepted_batches = k + accepted_of n (edges_in w) bs });
      memory = (lived n ls w bs).memory;
    }
unfolding carried accepted_of
carried_good n ls w k [] g = rw (add-zero k)
carried_good n ls w k (b ∷ bs) g =
    let s = steps n ls w b g in
    let j : ℕ = choose (turned_back n (edges_in w) b) 1 0 in
    let a : k + j + accepted_of n (after n (edges_in w) b) bs ≡ k + (j + accepted_of n (after n (edges_in w) b) bs) = omega arith in
    carried_good n ls (hand_on w (batch_call n ls w b)) (k + choose (verdict_of (batch_call n ls w b).reply) 1 0) bs s.kept
    ∙ (rw (s.applied.judged, s.moved, a))

-- ---- the whole call

module _ (n : ℕ) (ls : List ℕ) (w : Network) (bs : List (List Change)) where
  -- its outcome where the opening is accepted
  abbrev done : Outcome Summary Memory
  done = record {
    reply = accepted (record { count = (moment n ls w bs).count; accepted_batches = accepted_of n (edges_in w) bs });
    memory = (moment n ls w bs).memory;
  }

  call_done : faults n ls w ≡ accept → replay_call n ls w bs ≡ done
  unfolding replay_call
  call_done h = outcome_accepted (faults n ls w) _ _ _ h

  call_refused : (k i : ℕ) → faults n ls w ≡ refuse k i → replay_call n ls w bs ≡ record { reply = refused k i; memory = w.memory }
  unfolding replay_call
  call_refused k i h = outcome_refused (faults n ls w) _ _ _ h

  -- after a refused opening nothing is done
  pub replay_refused : (e : Refusal) (ts hs ws f b : List ℕ) → open_outcome (Err e) ts hs ws f b ≡ open_call n ls w
      → replay_outcome (Err e) ts hs ws f b ≡ replay_call n ls w bs
  unfolding reply_of verdict_of open_call
  replay_refused e ts hs ws f b o =
      let v : verdict_of (open_call n ls w).reply ≡ refuse (number e) (place e) = ap (λ x. verdict_of x.reply) (sym o) in
      let m : lists ts hs ws f b ≡ w.memory =
      ap (λ x. x.memory) (o ∙ outcome_refused (open_verdict n ls w) tt (open_memory n ls w) w.memory (sym (verdict_replied (open_verdict n ls w) tt) ∙ v)) in
      rw m (sym (call_refused (number e) (place e) (sym (open_judged n ls w) ∙ v)))

  -- After an accepted opening the invariant holds, and the batches go on from there.
  pub replay_done : (ts hs ws f b : List ℕ) → open_outcome (Ok tt) ts hs ws f b ≡ open_call n ls w
      → {z : Outcome Summary Memory} → z ≡ carried n ls (network ts hs ws f b w.count) 0 bs → z ≡ replay_call n ls w bs
  unfolding reply_of verdict_of
  replay_done ts hs ws f b o h =
      let v : verdict_of (open_call n ls w).reply ≡ accept = ap (λ x. verdict_of x.reply) (sym o) in
      let e : network ts hs ws f b w.count ≡ opened_network n ls w = ap (λ x. record { memory = x.memory; count = w.count }) o in
      let g = opens n ls w v in
      h ∙ ap (λ x. carried n ls x 0 bs) e ∙ carried_good n ls (opened_network n ls w) 0 bs g.0 ∙ (rw (g.1, zero-add (accepted_of n (edges_in w) bs))) ∙ sym (call_done (sym (open_judged n ls w) ∙ v))

-- Where the reply is no refusal, the opening was accepted, and what the lists hold is the network at the last moment of the batches: of
-- that one demand 3 speaks.
pub replay_ends : (n : ℕ) (ls : List ℕ) (w : Network) (bs : List (List Change)) (r : Result declared.Summary Refusal) (ts hs ws f b : List ℕ)
    → replay_outcome r ts hs ws f b ≡ replay_call n ls w bs → AtExit n ls w bs r ts hs ws f b
unfolding reply_of replay_call
replay_ends n ls w bs r ts hs ws f b o = record { holds = λ s e. subst (Holds n ls (edges_now n w bs)) (same s e) (((began s e).holds bs []) (sym (append-nil bs))); past = began }
  where
    opened : (s : declared.Summary) → r ≡ Ok s → (faults n ls w ≡ accept) × (◌≡◌ {A = Summary} (record { count = (moment n ls w bs).count; accepted_batches = accepted_of n (edges_in w) bs }) (summary_of s))
    opened s e = reply_accepted (faults n ls w) _ (summary_of s) (ap (λ y. y.reply) (sym (rw e at o)))

    began : (s : declared.Summary) → r ≡ Ok s → Past n ls w bs
    began s e = (history n ls w).later (opened s e).0 bs

    same : (s : declared.Summary) → r ≡ Ok s → moment n ls w bs ≡ network ts hs ws f b s.count
    same s e =
        let x = opened s e in
        let a : (moment n ls w bs).memory ≡ lists ts hs ws f b = ap (λ y. y.memory) (sym (call_done n ls w bs x.0) ∙ sym o) in
        let c : (moment n ls w bs).count ≡ s.count = ap (λ y. y.count) x.1 in
        rw (sym a, sym c)
