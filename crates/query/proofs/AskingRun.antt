-- A query's run and its outcome: from the start words to the reply and the lists lent for the answer. Assumes nothing.
use Rattle.property.proofs.Basics.{◌≡◌, sym, ap, ◌∙◌, List, ◌++◌, ℕ, length, drop, drop_at, paste}
use Rattle.property.specs.Property.{property}
use Rattle.std.specs.Prelude.{Ok, Err}
use Rattle.graph.specs.declared.refusal.Refusal.{Refusal}
use Rattle.graph.specs.Refusal.{accept, accepted, over}
use Rattle.graph.specs.Code.{told, reply_of}
use Rattle.graph.proofs.Verdicts.{refuse_then, outcome_refused, outcome_accepted}
use Rattle.run.specs.declared.Tally.{Tally}
use Rattle.run.specs.Run.{State}
use Rattle.run.specs.Start.{asked}
use Rattle.run.specs.Code.{state}
use Rattle.network.specs.Network.{Network, edges_in}
use Rattle.network.specs.Query.{Query, at_start, at_end, query_faults, query_verdict, query_call}
use Rattle.query.specs.Code.{words_of, as_outcome, run_from, Ended}
use Rattle.network.proofs.Never.{FitList, query_verdict_lem}
use Rattle.graph.proofs.Copies.{paste_over}

-- ---- the run

-- the words of a run stand where its start words were put, and past them the list is as it was
pub run_ended : (n : ℕ) (st : State) (zs ys vs ws bs : List ℕ) (t : Tally) → state n ws bs t ≡ st → length zs ≡ n → length ws ≡ n → vs ≡ paste ys 0 zs n
    → Ended st t ys (ws ++ drop n vs)
run_ended n st zs ys vs ws bs t e lz lw ev =
    let g : drop n vs ≡ drop (length ws) ys = ap (drop n) (ev ∙ paste_over ys zs n lz) ∙ drop_at zs _ n lz ∙ ap (λ (j : ℕ). drop j ys) (lz ∙ sym lw) in
    (ap (λ (s : State). s.tally) e, ap (λ (l : List ℕ). ws ++ l) g ∙ ap (λ (s : State). over s.words ys) e)

-- ---- the outcome

module _ (n : ℕ) (ls : List ℕ) (w : Network) (q : Query) (xs ys : List ℕ) where
  -- a refusal before the run
  pub query_refused : (e : Refusal) → told (Err e) ≡ query_faults n ls w q (length xs) (length ys)
      → as_outcome (Err e) xs ys ≡ query_call n ls w q (words_of xs ys)
  unfolding query_call reply_of told
  query_refused e h =
      sym (outcome_refused (query_verdict n ls w q (words_of xs ys)) _ _ _ (refuse_then _ _ (sym h)))

  -- None is. Nothing waits after n rounds, whatever words of 32 bits the rows hold.
  pub query_settled : FitList w.memory.rows.forward → FitList w.memory.rows.backward → query_faults n ls w q (length xs) (length ys) ≡ accept
      → (zs us vs : List ℕ) (t : Tally) → zs ≡ (at_start n ls w q).words → us ≡ over zs xs
      → Ended (run_from (property q.property) (edges_in w) n q.source q.schedule zs) t ys vs → as_outcome (Ok t) us vs ≡ query_call n ls w q (words_of xs ys)
  unfolding query_call reply_of asked
  query_settled f b fine zs us vs t e eu (d, c) =
      let ended : run_from (property q.property) (edges_in w) n q.source q.schedule zs ≡ at_end n ls w q
      = ap (run_from (property q.property) (edges_in w) n q.source q.schedule) e in
      (λ i. record { reply = accepted ((d ∙ ap (λ (s : State). s.tally) ended) i); memory = words_of ((eu ∙ ap (λ (l : List ℕ). over l xs) e) i) ((c ∙ ap (λ (s : State). over s.words ys) ended) i) })
      ∙ sym (outcome_accepted (query_verdict n ls w q (words_of xs ys)) _ _ _ (query_verdict_lem n ls w q (words_of xs ys) f b ∙ fine))
