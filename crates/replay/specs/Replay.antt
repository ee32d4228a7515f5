-- A whole history in one call: an opening and batch after batch, each with the same n and landmarks and the present count: document 01, "Query"
-- ("a network opened and changed by these calls alone") and "Over what does demand 3 run?". Assumes nothing.
--
--   batches_from a ends cs  == the batches of the changes cs, batch after batch: the first from index a to the first end, each next one from the
--                             end before it to its own. An end past the last change cuts there, and a batch whose end is not above the one
--                             before it has no changes
--   batches ends cs       == those from the first change on
--   accepted_of n es bs   == how many of the batches bs "Turned back" accepts, on the edges es and what each leaves
--   Summary               == the present count, and how many batches were accepted
--   replay_call n ls w bs == reply and every lent list at exit: refused as the opening is, with all as before, or the network at that moment
use Rattle.std.specs.Prelude.{List, [], ◌∷◌, ℕ, ◌+◌, ◌-◌, take, drop}
use Rattle.graph.specs.Refusal.{Outcome, outcome, choose}
use Rattle.graph.specs.Edge.{Edge}
use Rattle.network.specs.Network.{Memory, Network, edges_in, faults}
use Rattle.network.specs.Change.{Change}
use Rattle.network.specs.Current.{turned_back, after}
use Rattle.network.specs.History.{moment}

-- ---- batches of a list of changes

unfoldable pub batches_from : ℕ → List ℕ → List Change → List (List Change)
batches_from a [] cs = []
batches_from a (b ∷ ends) cs = take (b - a) (drop a cs) ∷ batches_from b ends cs

abbrev pub batches : List ℕ → List Change → List (List Change)
batches ends cs = batches_from 0 ends cs

-- ---- the call

unfoldable pub accepted_of : ℕ → List Edge → List (List Change) → ℕ
accepted_of n es [] = 0
accepted_of n es (b ∷ bs) = choose (turned_back n es b) 1 0 + accepted_of n (after n es b) bs

pub record Summary : Type 0 where
  pub count : ℕ
  pub accepted_batches : ℕ

unfoldable pub replay_call : ℕ → List ℕ → Network → List (List Change) → Outcome Summary Memory
replay_call n ls w bs = outcome (faults n ls w) (record { count = (moment n ls w bs).count; accepted_batches = accepted_of n (edges_in w) bs })
    (moment n ls w bs).memory w.memory
