-- What the functions of a replay hold and answer. Assumes nothing.
--
--   summary_of s                  == the program's summary as the call's
--   replaying r                   == the program's reply as a summary, or as number and place
--   replay_outcome r ts hs ws f b == the program's reply r and the lent lists at exit, as an outcome
--   carried n ls w k bs           == reply and lent lists of the batches bs, one after the other from the network w on, as the calls answer them;
--                                   k batches were accepted before them
--   AtExit n ls w bs r ts hs ws f b == where r is no refusal: of the network in the lists at exit, with the count that r tells, holds what demand 3
--                                   says of the network after the batches bs; and each of these batches has done what it says of a batch
use Rattle.std.specs.Prelude.{◌≡◌, List, [], ◌∷◌, ℕ, ◌+◌, Result, Ok}
use Rattle.graph.specs.declared.refusal.Refusal.{Refusal}
use Rattle.graph.specs.Refusal.{Reply, accepted, verdict_of, choose, Outcome}
use Rattle.graph.specs.Code.{reply_of}
use Rattle.replay.specs.declared.Summary as declared
use Rattle.network.specs.Network.{Memory, Network}
use Rattle.network.specs.Change.{Change}
use Rattle.network.specs.Batch.{batch_call}
use Rattle.network.specs.Caller.{hand_on}
use Rattle.network.specs.History.{Holds, edges_now, Past}
use Rattle.calls.specs.Code.{lists, network}
use Rattle.replay.specs.Replay.{Summary}

abbrev pub summary_of : declared.Summary → Summary
summary_of s = record { count = s.count; accepted_batches = s.accepted_batches }

abbrev pub replaying : Result declared.Summary Refusal → Reply Summary
replaying r = reply_of summary_of r

abbrev pub replay_outcome : Result declared.Summary Refusal → List ℕ → List ℕ → List ℕ → List ℕ → List ℕ → Outcome Summary Memory
replay_outcome r ts hs ws f b = record { reply = replaying r; memory = lists ts hs ws f b }

unfoldable pub carried : ℕ → List ℕ → Network → ℕ → List (List Change) → Outcome Summary Memory
carried n ls w k [] = record { reply = accepted (record { count = w.count; accepted_batches = k }); memory = w.memory }
carried n ls w k (b ∷ bs) = carried n ls (hand_on w (batch_call n ls w b)) (k + choose (verdict_of (batch_call n ls w b).reply) 1 0) bs

pub record AtExit (n : ℕ) (ls : List ℕ) (w : Network) (bs : List (List Change)) (r : Result declared.Summary Refusal) (ts hs ws f b : List ℕ) : Type 0 where
  pub holds : (s : declared.Summary) → r ≡ Ok s → Holds n ls (edges_now n w bs) (network ts hs ws f b s.count)
  pub past : (s : declared.Summary) → r ≡ Ok s → Past n ls w bs
