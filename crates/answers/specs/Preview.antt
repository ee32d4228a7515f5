-- What a batch would do to one source and property, before it is applied: document 02, Four. Assumes nothing.
--
--   Shown               == the two lists lent for the answer: what becomes of each vertex, and by how much its word moves
--   effect_of P a b     == what becomes of a vertex whose word is a before and b after: 0 same, 1 gained a route, 2 lost it, 3 moved
--   move_of P a b       == b minus a where both have a route, else 0
--   inquiry p s         == the query for property p from s, without a schedule
--   applied             == the copy after the batch
--   before, afterwards  == the query on the lent network, and on that copy; its answer in lists of n words
--   preview_faults x y  == number 1 of the batch and numbers 1 to 6 of the query, where the lists for the answer have x and y entries
--   preview_verdict out == when the call is refused: those, then what the batch is turned back for, then 13 of a query
--   settled_word o t    == the settled word of t that the query's outcome o has
--   shown out           == the two lists after the call: entries past n stay
--   preview_call        == reply ("only that it was accepted") and both lists at exit. The network is no part of what is left: it is lent to read
--
-- and on a network of these calls, whose edges are es, and fs after the batch:
--
--   preview_back n es b p s out == what "Turned back" says of a preview there: 1, 2, 5, 6, and then the number and place of the batch
--   Unrouted P es s t == the edges es have no route from s to t
--   Reached P es s t  == they have one
--   Accounts P es fs s t left == the two entries of t in the lists left tell its best values on es and on fs: 0 says that they are the same, 1 and 2 that a route
--                          came or went, 3 that there is one on both and the values differ; the move is their difference where there is one on both
--   EntriesStay n out left == both lists are as long as they were, and past n entries as they were
--   Foretold ..            == what the call does there, for a batch b, property p and source s
--   PreviewHolds           == the claim: so it is after any list of batches
--   Differ P x y e d       == the entries e and d say how the words x before and y after differ
--   Borne ..               == the batch is accepted on w, and of any accepted query on w and any one on v, the network after it, the lists left show the
--                          differences
--   PreviewComesTrue    == the claim: so it is of an accepted preview after any list of batches. A preview returns no table and no rows, so
--                          previews may stand anywhere between batches
--   EmptyShown          == the claim: on any network and whatever words it holds, an accepted preview of a batch without changes shows 0 and 0
--   AnyPreviewNever     == the claim: on any network, whatever words of 32 bits its row lists hold, a preview is never refused for 13
use Rattle.std.specs.Prelude.{◌≡◌, ◌≢◌, ◌↔◌, ◌⊎◌, ◌||◌, cond, List, [], ◌∷◌, ◌++◌, map, ℕ, ◌<◌, length, get_or, replicate, ℤ, pos, ◌-ℤ◌, eqb}
use Rattle.property.specs.Property.{Property, property}
use Rattle.graph.specs.Refusal.{Verdict, accept, ◌▷◌, accepted, refused, verdict_of, Outcome, outcome, over}
use Rattle.graph.specs.Edge.{Edge, range}
use Rattle.graph.specs.Route.{Route, Best}
use Rattle.run.specs.Run.{Tally, word}
use Rattle.network.specs.Network.{Network, faults}
use Rattle.network.specs.Query.{Query, Words, short_words, requested, query_faults, query_call}
use Rattle.network.specs.Change.{Change, items}
use Rattle.network.specs.Batch.{long_batch, batch_call}
use Rattle.network.specs.Caller.{hand_on, queried}
use Rattle.network.specs.Never.{Never, FitList}
use Rattle.network.specs.Steady.{RestStays}
use Rattle.network.specs.History.{moment, edges_now}

pub record Shown : Type 0 where
  pub effects : List ℕ
  pub moves : List ℤ

-- ---- one vertex

abbrev pub effect_of : Property → ℕ → ℕ → ℕ
effect_of P a b = cond (eqb a b) 0 (cond (eqb a P.none) 1 (cond (eqb b P.none) 2 3))

abbrev pub move_of : Property → ℕ → ℕ → ℤ
move_of P a b = cond (eqb a P.none || eqb b P.none) (pos 0) (pos b -ℤ pos a)

-- ---- the call

abbrev pub inquiry : ℕ → ℕ → Query
inquiry p s = record { property = p; source = s; schedule = [] }

abbrev pub applied : ℕ → List ℕ → Network → List Change → Network
applied n ls w b = hand_on w (batch_call n ls w b)

module _ (n : ℕ) (ls : List ℕ) (w : Network) (b : List Change) (p s : ℕ) where
  abbrev pub before : Outcome Tally Words
  before = queried n ls w p s []

  abbrev pub afterwards : Outcome Tally Words
  afterwards = queried n ls (applied n ls w b) p s []

  unfoldable pub preview_faults : ℕ → ℕ → Verdict
  preview_faults x y = long_batch (length b) ▷ query_faults n ls w (inquiry p s) x y

  abbrev pub preview_verdict : Shown → Verdict
  preview_verdict out =
      preview_faults (length out.effects) (length out.moves)
      ▷ verdict_of (batch_call n ls w b).reply
      ▷ verdict_of before.reply
      ▷ verdict_of afterwards.reply

  abbrev pub settled_word : Outcome Tally Words → ℕ → ℕ
  settled_word o t = word (property p) o.memory.settled t

  abbrev pub shown : Shown → Shown
  shown out = record {
    effects = over (map (λ t. effect_of (property p) (settled_word before t) (settled_word afterwards t)) (range 0 n)) out.effects;
    moves = over (map (λ t. move_of (property p) (settled_word before t) (settled_word afterwards t)) (range 0 n)) out.moves;
  }

  unfoldable pub preview_call : Shown → Outcome (Unit {0}) Shown
  preview_call out = outcome (preview_verdict out) tt (shown out) out

-- ---- on a network of these calls

abbrev pub preview_back : ℕ → List Edge → List Change → ℕ → ℕ → Shown → Verdict
preview_back n es b p s out =
    long_batch (length b) ▷ short_words n (length out.effects) (length out.moves) ▷ requested n (inquiry p s) ▷ items n 0 es b

abbrev pub Unrouted : Property → List Edge → ℕ → ℕ → Type 0
Unrouted P es s t = (u : ℕ) → Route P es s t u → ⊥

abbrev pub Reached : Property → List Edge → ℕ → ℕ → Type 0
Reached P es s t = (u : ℕ) × Route P es s t u

pub record Accounts (P : Property) (es fs : List Edge) (s t : ℕ) (left : Shown) : Type 0 where
  pub old : ℕ
  pub new : ℕ
  pub best : Best P es s t old
  pub later : Best P fs s t new
  pub same : (get_or left.effects t 0 ≡ 0) ↔ (old ≡ new)
  pub gained : (get_or left.effects t 0 ≡ 1) ↔ (Unrouted P es s t × Reached P fs s t)
  pub lost : (get_or left.effects t 0 ≡ 2) ↔ (Reached P es s t × Unrouted P fs s t)
  pub moved : (get_or left.effects t 0 ≡ 3) ↔ (Reached P es s t × Reached P fs s t × (old ≢ new))
  pub move : Reached P es s t → Reached P fs s t → get_or left.moves t (pos 0) ≡ pos new -ℤ pos old
  pub unmoved : Unrouted P es s t ⊎ Unrouted P fs s t → get_or left.moves t (pos 0) ≡ pos 0

pub record EntriesStay (n : ℕ) (out left : Shown) : Type 0 where
  pub effects : (length left.effects ≡ length out.effects) × RestStays n out.effects left.effects
  pub moves : (length left.moves ≡ length out.moves) × RestStays n out.moves left.moves

module _ (n : ℕ) (ls : List ℕ) (es fs : List Edge) (w : Network) (b : List Change) (p s : ℕ) (out : Shown) where
  pub record Foretold : Type 0 where
    pub judged : verdict_of (preview_call n ls w b p s out).reply ≡ preview_back n es b p s out
    pub stays : (k i : ℕ) → (preview_call n ls w b p s out).reply ≡ refused k i → (preview_call n ls w b p s out).memory ≡ out
    pub tells : (preview_call n ls w b p s out).reply ≡ accepted tt → (t : ℕ) → t < n → Accounts (property p) es fs s t (preview_call n ls w b p s out).memory
    pub rest : (preview_call n ls w b p s out).reply ≡ accepted tt → EntriesStay n out (preview_call n ls w b p s out).memory

abbrev pub PreviewHolds : Type 0
PreviewHolds = (n : ℕ) (ls : List ℕ) (w : Network) → faults n ls w ≡ accept → (bs : List (List Change)) (b : List Change) (p s : ℕ) (out : Shown)
    → Foretold n ls (edges_now n w bs) (edges_now n w (bs ++ b ∷ [])) (moment n ls w bs) b p s out

-- ---- what was shown comes true

pub record Differ (P : Property) (x y e : ℕ) (d : ℤ) : Type 0 where
  pub same : (e ≡ 0) ↔ (x ≡ y)
  pub gained : (e ≡ 1) ↔ ((x ≡ P.none) × (y ≢ P.none))
  pub lost : (e ≡ 2) ↔ ((x ≢ P.none) × (y ≡ P.none))
  pub moved : (e ≡ 3) ↔ ((x ≢ P.none) × (y ≢ P.none) × (x ≢ y))
  pub move : x ≢ P.none → y ≢ P.none → d ≡ pos y -ℤ pos x
  pub unmoved : (x ≡ P.none) ⊎ (y ≡ P.none) → d ≡ pos 0

pub record Borne (n : ℕ) (ls : List ℕ) (w v : Network) (b : List Change) (p s : ℕ) (left : Shown) : Type 0 where
  pub accepts : verdict_of (batch_call n ls w b).reply ≡ accept
  pub shows : (q r : Query) (was is : Words) (one two : Tally) → q.property ≡ p → q.source ≡ s → r.property ≡ p → r.source ≡ s
      → (query_call n ls w q was).reply ≡ accepted one → (query_call n ls v r is).reply ≡ accepted two → (t : ℕ) → t < n
      → let x = word (property p) (query_call n ls w q was).memory.settled t in
      let y = word (property p) (query_call n ls v r is).memory.settled t in
      Differ (property p) x y (get_or left.effects t 0) (get_or left.moves t (pos 0))

abbrev pub PreviewComesTrue : Type 0
PreviewComesTrue = (n : ℕ) (ls : List ℕ) (w : Network) → faults n ls w ≡ accept → (bs : List (List Change)) (b : List Change) (p s : ℕ) (out : Shown)
    → (preview_call n ls (moment n ls w bs) b p s out).reply ≡ accepted tt
    → Borne n ls (moment n ls w bs) (moment n ls w (bs ++ b ∷ [])) b p s (preview_call n ls (moment n ls w bs) b p s out).memory

abbrev pub EmptyShown : Type 0
EmptyShown = (n : ℕ) (ls : List ℕ) (w : Network) (p s : ℕ) (out : Shown) → (preview_call n ls w [] p s out).reply ≡ accepted tt
    → (preview_call n ls w [] p s out).memory ≡ record { effects = over (replicate n 0) out.effects; moves = over (replicate n (pos 0)) out.moves }

abbrev pub AnyPreviewNever : Type 0
AnyPreviewNever = (n : ℕ) (ls : List ℕ) (w : Network) → FitList w.memory.rows.forward → FitList w.memory.rows.backward → (b : List Change) (p s : ℕ) (out : Shown)
    → Never (preview_call n ls w b p s out).reply
