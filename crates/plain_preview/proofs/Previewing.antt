-- A query without a schedule and a preview as calls: their verdicts, and the lists lent for the answer. Assumes nothing.
use Rattle.property.proofs.Basics.{◌≡◌, refl, sym, ap, ap₂, ◌∙◌, Bool, true, false, List, [], map, ℕ, ◌<◌, ◌≤◌, arith, length, get_or, take, replicate, length-replicate, le-ltb}
use lib.IntN.{ℤ}
use Rattle.property.specs.Property.{property}
use Rattle.graph.specs.Limits.{max_vertices}
use Rattle.std.specs.Prelude.{Result, Ok, Err}
use Rattle.graph.specs.declared.refusal.Refusal.{Refusal}
use Rattle.graph.specs.Refusal.{Verdict, accept, refuse, ◌▷◌, refuse_if, accepted, replied, verdict_of, Outcome, over}
use Rattle.graph.specs.Edge.{range}
use Rattle.graph.specs.Table.{size, short_table, table}
use Rattle.graph.specs.Code.{told}
use Rattle.graph.proofs.Tests.{or_false}
use Rattle.graph.proofs.Lists.{range_below, get_or_within, take_replicate}
use Rattle.graph.proofs.Verdicts.{then_accept, accept_then, accept_if, then_same, verdict_replied, outcome_refused, outcome_accepted}
use Rattle.graph.proofs.Judging.{size_accept, then_refused, fine_accept}
use Rattle.run.specs.Run.{Tally, word}
use Rattle.run.specs.declared.Tally as declared
use Rattle.query.specs.Code.{asking, words_of, answering, as_outcome}
use Rattle.query.proofs.AskingFaults.{Sound, faults_accept}
use Rattle.network.specs.Network.{Network, short_rows, landmarks, faults}
use Rattle.network.specs.Query.{Words, long_schedule, short_words, requested, query_faults, query_verdict, query_call}
use Rattle.network.specs.Change.{Change}
use Rattle.network.specs.Batch.{batch_call, long_batch}
use Rattle.network.specs.Caller.{queried}
use Rattle.network.proofs.Query.{query_parts}
use Rattle.network.proofs.Alike.{map_alike}
use Rattle.network.proofs.Never.{FitList, query_verdict_lem}
use Rattle.answers.specs.Preview.{Shown, effect_of, move_of, inquiry, before, afterwards, preview_faults, preview_verdict, preview_call}
use Rattle.effects.specs.Code.{shown_of}
use Rattle.plain_preview.specs.Code.{preview_outcome, AskDone}

-- the reply r says what the query's does, whose answer goes to lists of n zeros
pub answers_as : (n : ℕ) (ls : List ℕ) (w : Network) (p s : ℕ) (ys us zs : List ℕ) (a : Result declared.Tally Refusal) (r : Result (Unit {0}) Refusal) → n ≤ max_vertices → ys ≡ replicate n 0
    → as_outcome a us zs ≡ query_call n ls w (asking p s []) (words_of (take n (replicate max_vertices 0)) ys) → told r ≡ verdict_of (answering a) → AskDone n ls w p s r zs
answers_as n ls w p s ys us zs a r h y e v =
    let q : as_outcome a us zs ≡ queried n ls w p s [] = e ∙ ap₂ (λ us vs. query_call n ls w (asking p s []) (words_of us vs)) (take_replicate n max_vertices 0 h) y in
    record { verdict = v ∙ ap (λ (o : Outcome Tally Words). verdict_of o.reply) q; words = λ _. ap (λ (o : Outcome Tally Words). o.memory.settled) q }

-- ---- numbers 1 to 6: first 1 of both and 2 of the lists for the answer, and then the query before, whose own lists have n words

-- tests for one number may be made in any order
ordered : (a z : Verdict) (t r w : Bool) (v : Verdict)
    → (a ▷ z ▷ refuse_if t 2 0 ▷ refuse_if r 2 0 ▷ refuse_if w 2 0 ▷ v) ≡ ((a ▷ z ▷ refuse_if w 2 0) ▷ z ▷ refuse_if t 2 0 ▷ refuse_if r 2 0 ▷ v)
unfolding refuse_if ◌▷◌
ordered (refuse k i) z t r w v = refl
ordered accept (refuse k i) t r w v = refl
ordered accept accept true r true v = refl
ordered accept accept true r false v = refl
ordered accept accept false true true v = refl
ordered accept accept false true false v = refl
ordered accept accept false false true v = refl
ordered accept accept false false false v = refl

module _ (n : ℕ) (ls : List ℕ) (w : Network) (p s : ℕ) where
  abbrev room : ℕ
  room = length (replicate {A = ℕ} n 0)

  abbrev rest : Verdict
  rest = landmarks n ls ▷ table n w.memory.table w.count ▷ requested n (inquiry p s)

  flat : (x y : ℕ) → query_faults n ls w (inquiry p s) x y ≡ (size n ▷ short_table w.memory.table ▷ short_rows n ls w.memory.rows ▷ short_words n x y ▷ rest)
  unfolding query_faults
  flat x y = ap (λ v. size n ▷ v) (accept_then {a = long_schedule 0} (accept_if 1 0 refl))

  -- the query's own lists are long enough
  roomy : short_words n room room ≡ accept
  roomy = let l : n ≤ room = omega (arith, length-replicate {A = ℕ} n 0) in accept_if 2 0 (or_false (le-ltb _ _ l) (le-ltb _ _ l))

  pub faults_first : (k x y : ℕ) → (long_batch k ▷ query_faults n ls w (inquiry p s) x y) ≡ ((long_batch k ▷ size n ▷ short_words n x y) ▷ query_faults n ls w (inquiry p s) room room)
  faults_first k x y =
      ap (λ v. long_batch k ▷ v) (flat x y) ∙ ordered (long_batch k) (size n) _ _ _ rest
      ∙ ap (λ v. (long_batch k ▷ size n ▷ short_words n x y) ▷ v)
      (sym (flat room room ∙ ap (λ v. size n ▷ short_table w.memory.table ▷ short_rows n ls w.memory.rows ▷ v) (accept_then roomy)))

  -- with words of 32 bits in the rows it is judged by these numbers alone
  pub asked_verdict : FitList w.memory.rows.forward → FitList w.memory.rows.backward
      → verdict_of (queried n ls w p s []).reply ≡ query_faults n ls w (inquiry p s) room room
  unfolding query_call
  asked_verdict f b =
      let o : Words = words_of (replicate n 0) (replicate n 0) in
      verdict_replied (query_verdict n ls w (inquiry p s) o) _ ∙ query_verdict_lem n ls w (inquiry p s) o f b

-- what is known past the first of them, where the batch has k changes: there are few vertices, and the query before is judged as both are
module _ (n : ℕ) (ls : List ℕ) (w : Network) (k p s : ℕ) (xs : List ℕ) (ys : List ℤ) (h : told (Ok tt) ≡ (long_batch k ▷ size n ▷ short_words n (length xs) (length ys))) where
  pub few_vertices : n ≤ max_vertices
  few_vertices =
      let a = then_accept (long_batch k) (size n ▷ short_words n (length xs) (length ys)) (fine_accept _ h) in
      let b = then_accept (size n) (short_words n (length xs) (length ys)) a.1 in
      (size_accept n b.0).1

  pub judged_before : FitList w.memory.rows.forward → FitList w.memory.rows.backward → (r : Result (Unit {0}) Refusal) (zs : List ℕ) → AskDone n ls w p s r zs
      → told r ≡ (long_batch k ▷ query_faults n ls w (inquiry p s) (length xs) (length ys))
  judged_before f b r zs x = x.verdict ∙ asked_verdict n ls w p s f b ∙ sym (faults_first n ls w p s k (length xs) (length ys) ∙ accept_then (fine_accept _ h))

-- what is known past them
pub record Passed (n : ℕ) (ls : List ℕ) (w : Network) (k p s : ℕ) (xs : List ℕ) (ys : List ℤ) : Type 0 where
  pub fine : (long_batch k ▷ query_faults n ls w (inquiry p s) (length xs) (length ys)) ≡ accept
  pub answered : verdict_of (queried n ls w p s []).reply ≡ accept

pub passes : (n : ℕ) (ls : List ℕ) (w : Network) (k p s : ℕ) (xs : List ℕ) (ys : List ℤ) → told (Ok tt) ≡ (long_batch k ▷ size n ▷ short_words n (length xs) (length ys))
    → FitList w.memory.rows.forward → FitList w.memory.rows.backward → (zs : List ℕ) → AskDone n ls w p s (Ok tt) zs → Passed n ls w k p s xs ys
passes n ls w k p s xs ys h f b zs x = record { fine = fine_accept _ (judged_before n ls w k p s xs ys h f b (Ok tt) zs x); answered = fine_accept _ x.verdict }

module _ {n : ℕ} {ls : List ℕ} {w : Network} {k p s : ℕ} {xs : List ℕ} {ys : List ℤ} (g : Passed n ls w k p s xs ys) where
  asked : query_faults n ls w (inquiry p s) (length xs) (length ys) ≡ accept
  asked = (then_accept (long_batch k) _ g.fine).1

  pub passed_sound : Sound n ls w (inquiry p s) (length xs) (length ys)
  passed_sound = faults_accept n ls w (inquiry p s) (length xs) (length ys) asked

  pub passed_network : faults n ls w ≡ accept
  passed_network = let o = query_parts n ls w (inquiry p s) _ _ asked in accept_then o.0 ∙ accept_then o.2 ∙ accept_then o.3 ∙ accept_then o.5 ∙ o.6

  -- the batch and the query after it are judged alone
  pub passed_later : (cs : List Change) → length cs ≡ k → preview_verdict n ls w cs p s (shown_of xs ys)
      ≡ (verdict_of (batch_call n ls w cs).reply ▷ verdict_of (afterwards n ls w cs p s).reply)
  unfolding preview_faults
  passed_later cs e = accept_then (rw e g.fine) ∙ then_same _ (λ _. accept_then g.answered)

-- ---- the preview

module _ (n : ℕ) (ls : List ℕ) (w : Network) (cs : List Change) (p s : ℕ) (xs : List ℕ) (ys : List ℤ) where
  abbrev out : Shown
  out = shown_of xs ys

  -- refused: both lists stay
  pub preview_refused : (e : Refusal) → told (Err e) ≡ preview_verdict n ls w cs p s out → preview_outcome (Err e) xs ys ≡ preview_call n ls w cs p s out
  unfolding preview_call told replied
  preview_refused e h = sym (outcome_refused (preview_verdict n ls w cs p s out) tt _ out (sym h))

  pub preview_faulty : (e : Refusal) {j : ℕ} → length cs ≡ j → told (Err e) ≡ (long_batch j ▷ query_faults n ls w (inquiry p s) (length xs) (length ys))
      → preview_outcome (Err e) xs ys ≡ preview_call n ls w cs p s out
  unfolding preview_faults
  preview_faulty e l h = preview_refused e (then_refused e _ _ (rw l h))

  -- accepted: where bs and as are the settled words before and after, both lists show what becomes of them
  module _ (bs as' : List ℕ) (lb : length bs ≡ n) (la : length as' ≡ n) (eb : bs ≡ (before n ls w cs p s).memory.settled) (ea : as' ≡ (afterwards n ls w cs p s).memory.settled) where
    -- within a list what stands past its end does not matter
    tells : (l : List ℕ) → length l ≡ n → {z : List ℕ} → l ≡ z → (t : ℕ) → t < n → get_or l t 0 ≡ word (property p) z t
    tells l k e t h = get_or_within l t 0 (property p).none (omega arith) ∙ ap (λ (y : List ℕ). word (property p) y t) e

    same_shown : {A : Type 0} (f : ℕ → ℕ → A) → map (λ t. f (get_or bs t 0) (get_or as' t 0)) (range 0 (length bs))
        ≡ map (λ t. f (word (property p) (before n ls w cs p s).memory.settled t) (word (property p) (afterwards n ls w cs p s).memory.settled t)) (range 0 n)
    same_shown f = rw lb (map_alike _ _ (range 0 n) (λ t i. let h : t < n = omega (arith, range_below 0 n t i) in ap₂ f (tells bs lb eb t h) (tells as' la ea t h)))

    pub preview_shown : preview_verdict n ls w cs p s out ≡ accept → {es : List ℕ} {ms : List ℤ}
        → shown_of es ms ≡ shown_of (over (map (λ t. effect_of (property p) (get_or bs t 0) (get_or as' t 0)) (range 0 (length bs))) xs)
        (over (map (λ t. move_of (property p) (get_or bs t 0) (get_or as' t 0)) (range 0 (length bs))) ys) → preview_outcome (Ok tt) es ms ≡ preview_call n ls w cs p s out
    unfolding preview_call told replied
    preview_shown v e =
        ap (λ (o : Shown). record { reply = accepted tt; memory = o })
        (e ∙ ap₂ shown_of (ap (λ (l : List ℕ). over l xs) (same_shown (effect_of (property p)))) (ap (λ (l : List ℤ). over l ys) (same_shown (move_of (property p)))))
        ∙ sym (outcome_accepted (preview_verdict n ls w cs p s out) tt _ out v)
