-- What the functions of an opening answer. Assumes nothing.
--
--   opening r                   == the program's reply as document 01's
--   open_outcome r ts hs ws f b == the program's reply r and the lent lists at exit, as an outcome
use Rattle.std.specs.Prelude.{List, ℕ, Result}
use Rattle.graph.specs.declared.refusal.Refusal.{Refusal}
use Rattle.graph.specs.Refusal.{Reply, Outcome}
use Rattle.graph.specs.Code.{reply_of}
use Rattle.network.specs.Network.{Memory}
use Rattle.calls.specs.Code.{lists}

abbrev pub opening : Result (Unit {0}) Refusal → Reply (Unit {0})
opening r = reply_of (λ u. tt) r

abbrev pub open_outcome : Result (Unit {0}) Refusal → List ℕ → List ℕ → List ℕ → List ℕ → List ℕ → Outcome (Unit {0}) Memory
open_outcome r ts hs ws f b = record { reply = opening r; memory = lists ts hs ws f b }
