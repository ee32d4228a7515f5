-- A network of an edge table and landmarks: its opening is accepted, and so is every good query on it, with best values. Assumes nothing.
use Rattle.property.proofs.Basics.{◌≡◌, refl, ◌∙◌, List, [], ℕ, ◌*◌, ◌<◌, ◌≤◌, arith, false, length, replicate, length-replicate, ltb, le-ltb}
use Rattle.property.specs.Property.{property}
use Rattle.graph.specs.Limits.{max_edges}
use Rattle.graph.specs.Refusal.{accept, Reply, accepted, refused, verdict_of}
use Rattle.graph.specs.Edge.{Edge}
use Rattle.graph.specs.Table.{rules, size}
use Rattle.graph.specs.Route.{Best}
use Rattle.graph.proofs.Tests.{or_false}
use Rattle.graph.proofs.Records.{edges_back}
use Rattle.graph.proofs.Verdicts.{not_accept, accept_then, accept_if}
use Rattle.run.specs.Run.{word}
use Rattle.network.specs.Network.{Network, edges_in, row_count, landmarks, faults}
use Rattle.network.specs.Open.{open_call}
use Rattle.network.specs.Query.{Query, Words, query_call}
use Rattle.network.specs.Batch.{column}
use Rattle.network.specs.Caller.{holding, opened_network}
use Rattle.network.specs.Current.{query_back}
use Rattle.network.specs.History.{Holds}
use Rattle.network.proofs.Items.{length_column}
use Rattle.network.proofs.History.{history}

-- ---- the lists that are held before the opening

module _ (es : List Edge) (ls : List ℕ) (n : ℕ) where
  pub holding_edges : edges_in (holding es ls n) ≡ es
  holding_edges = edges_back es _ _ _

  -- the lists are as long as they must be, and the records read from them are the edges, which keep the table's rules
  pub holding_faults : size n ≡ accept → length es ≤ max_edges → rules n es ≡ accept → landmarks n ls ≡ accept → faults n ls (holding es ls n) ≡ accept
  holding_faults s l r c = accept_then s ∙ accept_then (accept_if 2 0 (or_false (wide (λ e. e.tail)) (or_false (wide (λ e. e.head)) (wide (λ e. e.weight)))))
      ∙ accept_then (accept_if 2 0 (or_false row_list row_list)) ∙ accept_then c ∙ accept_then (accept_if 4 0 (le-ltb max_edges (length es) l)) ∙ rw holding_edges r
    where
      wide : (f : Edge → ℕ) → ltb (length (column f es)) max_edges ≡ false
      wide f = le-ltb (length (column f es)) max_edges (omega (arith, length_column es l f))

      row_list : ltb (length (replicate {A = ℕ} (row_count ls * n) 0)) (row_count ls * n) ≡ false
      row_list = rw (length-replicate {A = ℕ} (row_count ls * n) 0) (le-ltb (row_count ls * n) (row_count ls * n) (omega arith))

-- ---- its opening, and queries on it

pub reply_given : {A : Type 0} (r : Reply A) → verdict_of r ≡ accept → (a : A) × (r ≡ accepted a)
unfolding verdict_of
reply_given (accepted a) h = (a, refl)
reply_given (refused k i) h = absurd (not_accept h)

module _ (n : ℕ) (ls : List ℕ) (w : Network) (h : faults n ls w ≡ accept) where
  pub opening_accepted : verdict_of (open_call n ls w).reply ≡ accept
  opening_accepted = (history n ls w).judged ∙ h

  -- the moment after the opening and no batch
  begun : Holds n ls (edges_in w) (opened_network n ls w)
  begun = ((history n ls w).later h []).holds [] [] refl

  module _ (q : Query) (out : Words) (g : query_back n q out ≡ accept) where
    pub query_accepted : verdict_of (query_call n ls (opened_network n ls w) q out).reply ≡ accept
    query_accepted = begun.judged q out ∙ g

    pub query_best : (t : ℕ) → t < n
        → Best (property q.property) (edges_in w) q.source t (word (property q.property) (query_call n ls (opened_network n ls w) q out).memory.settled t)
    query_best t l = let (tally, e) = reply_given (query_call n ls (opened_network n ls w) q out).reply query_accepted in (begun.query q out tally e).best t l
