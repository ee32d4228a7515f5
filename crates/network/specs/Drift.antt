-- The drift limit: document 02, One. "One figure moved by d moves no station's time, headroom or worst stretch by more than d, and no
-- handovers or reach." It speaks of tables and best values, so of rows and of queries alike. Assumes nothing.
--
--   Linked P es s t        == there is a route from s to t
--   NearRows d n ls w x    == the words of the rows of w and of x are as near as the limit says
--   NearAnswers d n ls w x == so are the settled words of a query that is accepted on both
--   zone_slack p k d       == how far values of property p may move where weights move by k in all, and each by at most d
--
-- and the claims, each with its theorem in proofs/Drift.antt:
--
--   DriftLimit  == where one weight moves by at most d, no best value of property p, from any vertex to any other, moves by more than slack p d  drift_limit
--   RoutesStay  == then no route appears or goes: so where one of two best values is the no-route word for want of a route, both are          routes_stay
--   RetuneLimit == the same limit for each standing word and each answer before and after an accepted batch of one update that moves a weight by at
--                   most d, on a network of our calls                                                                                            retune_limit
--   ZoneLimit    == where many weights move, time moves by at most the sum of their moves, headroom and worst stretch by at most the greatest,
--                   handovers and reach not at all                                                                                             zone_limit
use Rattle.std.specs.Prelude.{◌≡◌, ◌↔◌, true, cond, List, [], ◌∷◌, ◌++◌, ℕ, suc, ◌%◌, ◌<◌, eqb}
use Rattle.property.specs.Property.{Property, property, properties}
use Rattle.property.specs.Drift.{Near, slack}
use Rattle.graph.specs.Refusal.{accept, accepted}
use Rattle.graph.specs.Edge.{Edge}
use Rattle.graph.specs.Table.{rules}
use Rattle.graph.specs.Route.{Route, Best}
use Rattle.graph.specs.Moved.{Moved, Zone}
use Rattle.run.specs.Run.{Tally, word}
use Rattle.network.specs.Network.{Network, faults, row_count, row, property_of}
use Rattle.network.specs.Query.{Query, Words, query_call}
use Rattle.network.specs.Change.{Change, updates}
use Rattle.network.specs.Current.{turned_back}
use Rattle.network.specs.History.{moment, edges_now}

-- ---- one weight

abbrev pub DriftLimit : Type 0
DriftLimit = (p d n : ℕ) (es fs : List Edge) → rules n es ≡ accept → rules n fs ≡ accept → Moved d es fs
    → (s t v w : ℕ) → Best (property p) es s t v → Best (property p) fs s t w → Near (slack p d) v w

abbrev pub Linked : Property → List Edge → ℕ → ℕ → Type 0
Linked P es s t = (u : ℕ) × Route P es s t u

abbrev pub RoutesStay : Type 0
RoutesStay = (P : Property) (d : ℕ) (es fs : List Edge) → Moved d es fs → (s t : ℕ) → Linked P es s t ↔ Linked P fs s t

-- ---- standing words and answers

pub record NearRows (d n : ℕ) (ls : List ℕ) (w x : Network) : Type 0 where
  pub forward : (r t : ℕ) → r < row_count ls → t < n
      → Near (slack (suc (r % properties)) d) (word (property_of r) (row n r w.memory.rows.forward) t) (word (property_of r) (row n r x.memory.rows.forward) t)
  pub backward : (r t : ℕ) → r < row_count ls → t < n
      → Near (slack (suc (r % properties)) d) (word (property_of r) (row n r w.memory.rows.backward) t) (word (property_of r) (row n r x.memory.rows.backward) t)

abbrev pub NearAnswers : ℕ → ℕ → List ℕ → Network → Network → Type 0
NearAnswers d n ls w x = (q : Query) (out : Words) (i j : Tally) → (query_call n ls w q out).reply ≡ accepted i → (query_call n ls x q out).reply ≡ accepted j
    → (t : ℕ) → t < n → Near (slack q.property d) (word (property q.property) (query_call n ls w q out).memory.settled t)
    (word (property q.property) (query_call n ls x q out).memory.settled t)

abbrev pub RetuneLimit : Type 0
RetuneLimit = (d n : ℕ) (ls : List ℕ) (w : Network) → faults n ls w ≡ accept → (bs : List (List Change)) (c : Change) → updates c ≡ true
    → turned_back n (edges_now n w bs) (c ∷ []) ≡ accept → Near d c.old c.weight
    → NearRows d n ls (moment n ls w bs) (moment n ls w (bs ++ (c ∷ []) ∷ [])) × NearAnswers d n ls (moment n ls w bs) (moment n ls w (bs ++ (c ∷ []) ∷ []))

-- ---- many weights

abbrev pub zone_slack : ℕ → ℕ → ℕ → ℕ
zone_slack p k d = cond (eqb p 1) k (slack p d)

abbrev pub ZoneLimit : Type 0
ZoneLimit = (p k d n : ℕ) (es fs : List Edge) → rules n es ≡ accept → rules n fs ≡ accept → Zone k d es fs
    → (s t v w : ℕ) → Best (property p) es s t v → Best (property p) fs s t w → Near (zone_slack p k d) v w
