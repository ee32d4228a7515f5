-- What a preview takes and answers. Assumes nothing.
--
--   preview_outcome r xs ys == the program's reply r and the two lists at exit, as an outcome
--   AskDone n ls w p s r zs == r is the verdict of the query for property p from s on w, without a schedule, and where it is fine zs are its settled words
--   AskAfterDone n ls w p s cs r zs == the same of that query after the batch cs on a copy of w, where the batch is accepted; else r is the batch's verdict
use Rattle.std.specs.Prelude.{◌≡◌, List, [], ℕ, ℤ, Result, Ok}
use Rattle.graph.specs.declared.refusal.Refusal.{Refusal}
use Rattle.graph.specs.Refusal.{◌▷◌, replied, verdict_of, Outcome}
use Rattle.graph.specs.Code.{told}
use Rattle.network.specs.Network.{Network}
use Rattle.network.specs.Change.{Change}
use Rattle.network.specs.Batch.{batch_call}
use Rattle.network.specs.Caller.{queried}
use Rattle.answers.specs.Preview.{Shown, afterwards}
use Rattle.effects.specs.Code.{shown_of}

abbrev pub preview_outcome : Result (Unit {0}) Refusal → List ℕ → List ℤ → Outcome (Unit {0}) Shown
preview_outcome r xs ys = record { reply = replied (told r) tt; memory = shown_of xs ys }

pub record AskDone (n : ℕ) (ls : List ℕ) (w : Network) (p s : ℕ) (r : Result (Unit {0}) Refusal) (zs : List ℕ) : Type 0 where
  pub verdict : told r ≡ verdict_of (queried n ls w p s []).reply
  pub words : r ≡ Ok tt → zs ≡ (queried n ls w p s []).memory.settled

pub record AskAfterDone (n : ℕ) (ls : List ℕ) (w : Network) (p s : ℕ) (cs : List Change) (r : Result (Unit {0}) Refusal) (zs : List ℕ) : Type 0 where
  pub verdict : told r ≡ (verdict_of (batch_call n ls w cs).reply ▷ verdict_of (afterwards n ls w cs p s).reply)
  pub words : r ≡ Ok tt → zs ≡ (afterwards n ls w cs p s).memory.settled
