-- The claim over histories, demand 3: any list of batches after an accepted opening, at every moment of it, and any query there.
-- It speaks of routes, of best values and of the network as it is now (`current`), which is reckoned from the opening's edges and
-- the change records alone; the program's words appear only as what is compared. Assumes nothing.
--
--   Triangle P es ls s t v   == v is the triangle bound from s to t: the best, over the landmarks, of the best value to the landmark
--                               joined with the best value on from it
--   QueryRun P n es s vs tally out == the tally and the words that a query gives are those of its run: from its start words, where s alone waits,
--                               the schedule vs is gone through, and then rounds go on while any waits
--   QueryHolds ..      == what an accepted query gives: bounds and the source's value, rounds, its run, settled, best values
--   BestRows n ls es w == each word of the rows of w is the best value on the edges es, of its property, landmark and vertex
--   Holds n ls es w    == what holds of a network w whose edges are es: its records and count, its rows, and every query,
--                               which is turned back as document 01 says and never for 13
--   Unworse ..                 == rows xs that become ys: a vertex that is not affected keeps its word or gets a better one
--   Counted A i m k            == of the m numbers from i on, k are such that A
--   TotalAffected .. rs k      == the rows rs have k affected vertices in all
--   RowStart P es fs s ws n st == the state st in which a row's rounds start: affected vertices have no route and any other its word; waiting
--                               are the tails of all new edges into affected vertices and of all added ones
--   TotalStores .. rs k == the runs of the rows rs, each from its start and with rounds while any waits, store k words in all
--   Reported .. r       == the report r has the affected vertices of all rows and the stores of all their runs, no more and no fewer,
--                               and how many edges there are now
--   BatchHolds n ls es w b   == what the batch b does to w: it is turned back as the documents say, and then hands on words and
--                               count as it found them; no word gets worse that is not affected; and what it reports
--   moment n ls w bs == the network after the opening on w and the batches bs
--   edges_now n w bs == the network as it is now, at that moment
--   Past n ls w bs   == what holds at every moment of the list bs, and of every batch of it
--   Lifetime n ls w  == the opening on w is turned back for 1 to 4 alone; accepted, any list of batches has such a past
--   History          == the claim. A query returns no table and no rows, so queries may stand anywhere between batches
--   RoutesBest ..    == the words of the rows and of accepted queries are best values
--   BestOverRoutes   == demand 2, by itself: they are after any list of batches
use Rattle.std.specs.Prelude.{◌≡◌, ◌≢◌, ◌↔◌, ◌⊎◌, true, false, ℕ, suc, ◌+◌, ◌≤◌, ◌<◌, length, take, set, replicate}
use mathlib.Core.List.{List, [], ◌∷◌, ◌++◌, map, Memᴰ}
use Rattle.property.specs.Property.{Property, property}
use Rattle.graph.specs.Refusal.{accept, accepted, refused, verdict_of}
use Rattle.graph.specs.Edge.{Edge, reverse}
use Rattle.graph.specs.Route.{Best}
use Rattle.run.specs.Run.{State, Tally, no_tally, word, waits, relaxable, pass}
use Rattle.run.specs.Rounds.{Rounds}
use Rattle.affected.specs.Net.{added}
use Rattle.affected.specs.Affected.{Affected}
use Rattle.network.specs.Network.{Network, edges_in, faults, row_count, row, property_of, landmark_of, rows_of}
use Rattle.network.specs.Open.{open_call}
use Rattle.network.specs.Query.{Query, Words, query_call}
use Rattle.network.specs.Change.{Change}
use Rattle.network.specs.Batch.{Report, batch_call}
use Rattle.network.specs.Caller.{opened_network, hand_on, lived}
use Rattle.network.specs.Current.{turned_back, query_back, after, current}

-- ---- an accepted query

pub record Triangle (P : Property) (es : List Edge) (ls : List ℕ) (s t v : ℕ) : Type 0 where
  pub unbettered : (l a b : ℕ) → Memᴰ l ls → Best P es s l a → Best P es l t b → P.better (P.join a b) v ≡ false
  pub attained : (l a b : ℕ) × Memᴰ l ls × Best P es s l a × Best P es l t b × (v ≡ P.join a b)

-- "In a run the tally is one record, raised at each step": the run of document 01, which puts no bound to its rounds
pub record QueryRun (P : Property) (n : ℕ) (es : List Edge) (s : ℕ) (vs : List ℕ) (tally : Tally) (out : Words) : Type 0 where
  pub end : State
  pub run : Rounds P es n (pass P es vs (record { words = take n out.starts; waiting = set (replicate n false) s true; tally = no_tally })) end
  pub tallied : tally ≡ end.tally
  pub words : take n out.settled ≡ end.words

pub record QueryHolds (P : Property) (n : ℕ) (ls : List ℕ) (es : List Edge) (s : ℕ) (vs : List ℕ) (tally : Tally) (out : Words) : Type 0 where
  pub bounds : (t : ℕ) → t < n → t ≢ s → Triangle P es ls s t (word P out.starts t)
  pub source : word P out.starts s ≡ P.start
  pub quick : tally.rounds ≤ n
  pub ran : QueryRun P n es s vs tally out
  pub settled : (e : Edge) → Memᴰ e es → relaxable P out.settled e ≡ false
  pub best : (t : ℕ) → t < n → Best P es s t (word P out.settled t)

-- ---- any moment

pub record BestRows (n : ℕ) (ls : List ℕ) (es : List Edge) (w : Network) : Type 0 where
  pub forward : (r t : ℕ) → r < row_count ls → t < n
      → Best (property_of r) es (landmark_of ls r) t (word (property_of r) (row n r w.memory.rows.forward) t)
  pub backward : (r t : ℕ) → r < row_count ls → t < n
      → Best (property_of r) es t (landmark_of ls r) (word (property_of r) (row n r w.memory.rows.backward) t)

pub record Holds (n : ℕ) (ls : List ℕ) (es : List Edge) (w : Network) : Type 0 where
  pub records : edges_in w ≡ es
  pub count : w.count ≡ length es
  pub rows : BestRows n ls es w
  pub judged : (q : Query) (out : Words) → verdict_of (query_call n ls w q out).reply ≡ query_back n q out
  pub query : (q : Query) (out : Words) (tally : Tally) → (query_call n ls w q out).reply ≡ accepted tally
      → QueryHolds (property q.property) n ls es q.source q.schedule tally (query_call n ls w q out).memory

-- ---- one batch of the list

abbrev pub Unworse : ℕ → List ℕ → List Edge → List Edge → List ℕ → List ℕ → Type 0
Unworse n ls es fs xs ys = (r t : ℕ) → r < row_count ls → t < n
    → (Affected (property_of r) es fs (landmark_of ls r) (row n r xs) t → ⊥)
    → (property_of r).better (word (property_of r) (row n r xs) t) (word (property_of r) (row n r ys) t) ≡ false

pub data Counted (A : ℕ → Type 0) : ℕ → ℕ → ℕ → Type 0 where
  none : {i : ℕ} → Counted A i 0 0
  one : {i m k : ℕ} → A i → Counted A (suc i) m k → Counted A i (suc m) (suc k)
  other : {i m k : ℕ} → (A i → ⊥) → Counted A (suc i) m k → Counted A i (suc m) k

pub data TotalAffected (n : ℕ) (ls : List ℕ) (es fs : List Edge) (xs : List ℕ) : List ℕ → ℕ → Type 0 where
  none : TotalAffected n ls es fs xs [] 0
  more : {r a k : ℕ} {rs : List ℕ} → Counted (Affected (property_of r) es fs (landmark_of ls r) (row n r xs)) 0 n a → TotalAffected n ls es fs xs rs k
      → TotalAffected n ls es fs xs (r ∷ rs) (a + k)

-- "Suspects get no route. Waiting are then the tails of all new segments into suspects and of all added ones."
pub record RowStart (P : Property) (es fs : List Edge) (s : ℕ) (ws : List ℕ) (n : ℕ) (st : State) : Type 0 where
  pub words : length st.words ≡ n
  pub waiting : length st.waiting ≡ n
  pub cleared : (t : ℕ) → t < n → Affected P es fs s ws t → word P st.words t ≡ P.none
  pub kept : (t : ℕ) → t < n → (Affected P es fs s ws t → ⊥) → word P st.words t ≡ word P ws t
  pub wakes : (t : ℕ) → t < n
      → (waits st t ≡ true) ↔ ((e : Edge) × Memᴰ e fs × (e.tail ≡ t) × (Affected P es fs s ws e.head ⊎ (added P es fs e ≡ true)))
  pub untallied : st.tally ≡ no_tally

pub data TotalStores (n : ℕ) (ls : List ℕ) (es fs : List Edge) (xs : List ℕ) : List ℕ → ℕ → Type 0 where
  none : TotalStores n ls es fs xs [] 0
  more : {r k : ℕ} {rs : List ℕ} {st end : State} → RowStart (property_of r) es fs (landmark_of ls r) (row n r xs) n st → Rounds (property_of r) fs n st end
      → TotalStores n ls es fs xs rs k → TotalStores n ls es fs xs (r ∷ rs) (end.tally.stores + k)

pub record Reported (n : ℕ) (ls : List ℕ) (es fs : List Edge) (w : Network) (r : Report) : Type 0 where
  pub ahead : ℕ
  pub back : ℕ
  pub forward : TotalAffected n ls es fs w.memory.rows.forward (rows_of ls) ahead
  pub backward : TotalAffected n ls (map reverse es) (map reverse fs) w.memory.rows.backward (rows_of ls) back
  pub total : r.affected ≡ ahead + back
  pub stores_ahead : ℕ
  pub stores_back : ℕ
  pub forward_runs : TotalStores n ls es fs w.memory.rows.forward (rows_of ls) stores_ahead
  pub backward_runs : TotalStores n ls (map reverse es) (map reverse fs) w.memory.rows.backward (rows_of ls) stores_back
  pub stores : r.stores ≡ stores_ahead + stores_back
  pub count : r.count ≡ length fs

pub record BatchHolds (n : ℕ) (ls : List ℕ) (es : List Edge) (w : Network) (b : List Change) : Type 0 where
  pub judged : verdict_of (batch_call n ls w b).reply ≡ turned_back n es b
  pub kept : (k i : ℕ) → (batch_call n ls w b).reply ≡ refused k i → hand_on w (batch_call n ls w b) ≡ w
  pub forward : Unworse n ls es (after n es b) w.memory.rows.forward (batch_call n ls w b).memory.rows.forward
  pub backward : Unworse n ls (map reverse es) (map reverse (after n es b)) w.memory.rows.backward (batch_call n ls w b).memory.rows.backward
  pub reported : (r : Report) → (batch_call n ls w b).reply ≡ accepted r → Reported n ls es (after n es b) w r

-- ---- the whole list

-- the network after an accepted opening on w and the batches bs
abbrev pub moment : ℕ → List ℕ → Network → List (List Change) → Network
moment n ls w bs = lived n ls (opened_network n ls w) bs

-- the network as it is now at that moment
abbrev pub edges_now : ℕ → Network → List (List Change) → List Edge
edges_now n w bs = current n (edges_in w) bs

pub record Past (n : ℕ) (ls : List ℕ) (w : Network) (bs : List (List Change)) : Type 0 where
  pub holds : (past rest : List (List Change)) → bs ≡ past ++ rest → Holds n ls (edges_now n w past) (moment n ls w past)
  pub applied : (past rest : List (List Change)) (b : List Change) → bs ≡ past ++ b ∷ rest
      → BatchHolds n ls (edges_now n w past) (moment n ls w past) b

pub record Lifetime (n : ℕ) (ls : List ℕ) (w : Network) : Type 0 where
  pub judged : verdict_of (open_call n ls w).reply ≡ faults n ls w
  pub later : faults n ls w ≡ accept → (bs : List (List Change)) → Past n ls w bs

abbrev pub History : Type 0
History = (n : ℕ) (ls : List ℕ) (w : Network) → Lifetime n ls w

-- ---- demand 2

pub record RoutesBest (n : ℕ) (ls : List ℕ) (es : List Edge) (w : Network) : Type 0 where
  pub rows : BestRows n ls es w
  pub query : (q : Query) (out : Words) (tally : Tally) → (query_call n ls w q out).reply ≡ accepted tally → (t : ℕ) → t < n
      → Best (property q.property) es q.source t (word (property q.property) (query_call n ls w q out).memory.settled t)

abbrev pub BestOverRoutes : Type 0
BestOverRoutes = (n : ℕ) (ls : List ℕ) (w : Network) → faults n ls w ≡ accept → (bs : List (List Change))
    → RoutesBest n ls (edges_now n w bs) (moment n ls w bs)
