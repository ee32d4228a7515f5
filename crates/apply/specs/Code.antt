-- What applying a batch answers and leaves. Assumes nothing.
--
--   apply_call n ls w fs         == a batch after which the edges are fs: number 13, or the report and the lent lists
--   reporting r, applying r      == the program's report and reply as document 01's
--   batch_outcome r ts hs ws f b == the program's reply r and the lent lists at exit, as an outcome
use Rattle.std.specs.Prelude.{List, ℕ, Result}
use Rattle.graph.specs.declared.refusal.Refusal.{Refusal}
use Rattle.graph.specs.Refusal.{Reply, Outcome, outcome}
use Rattle.graph.specs.Edge.{Edge}
use Rattle.graph.specs.Code.{reply_of}
use Rattle.apply.specs.declared.Report as declared
use Rattle.network.specs.Network.{Memory, Network}
use Rattle.network.specs.Batch.{Report, still_waiting, batch_memory, report}
use Rattle.calls.specs.Code.{lists}

unfoldable pub apply_call : ℕ → List ℕ → Network → List Edge → Outcome Report Memory
apply_call n ls w fs = outcome (still_waiting n ls w fs) (report n ls w fs) (batch_memory n ls w fs) w.memory

abbrev pub reporting : declared.Report → Report
reporting r = record { count = r.count; affected = r.affected; stores = r.stores }

abbrev pub applying : Result declared.Report Refusal → Reply Report
applying r = reply_of reporting r

abbrev pub batch_outcome : Result declared.Report Refusal → List ℕ → List ℕ → List ℕ → List ℕ → List ℕ → Outcome Report Memory
batch_outcome r ts hs ws f b = record { reply = applying r; memory = lists ts hs ws f b }
