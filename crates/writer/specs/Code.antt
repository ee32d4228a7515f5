-- What the functions that write text ask and answer. Assumes nothing.
--
--   laid at text out        == the buffer out with text from position at on
--   Fits text at out        == from position at on the buffer out has room for text
--   Wrote text at out r new == new is the buffer out with text from position at on, and r is the position after it
--   arcs_of es              == the lines of the edges es, each ended by line feed
--   writing r               == the program's reply as document 01's
--   write_outcome r out     == the program's reply r and the buffer at exit, as an outcome
use Rattle.std.specs.Prelude.{◌≡◌, List, ◌++◌, map, ℕ, ◌+◌, ◌≤◌, length, take, drop, Result}
use Rattle.graph.specs.declared.refusal.Refusal.{Refusal}
use Rattle.graph.specs.Refusal.{Reply, Outcome}
use Rattle.graph.specs.Code.{reply_of}
use Rattle.graph.specs.Edge.{Edge}
use Rattle.dimacs.specs.Lines.{joined}
use Rattle.dimacs.specs.Network.{arc, item_of}

-- ---- pieces of text

unfoldable pub laid : ℕ → List ℕ → List ℕ → List ℕ
laid at text out = take at out ++ text ++ drop (at + length text) out

pub record Fits (text : List ℕ) (at : ℕ) (out : List ℕ) : Type 0 where
  pub room : at + length text ≤ length out

pub record Wrote (text : List ℕ) (at : ℕ) (out : List ℕ) (r : ℕ) (new : List ℕ) : Type 0 where
  pub next : r ≡ at + length text
  pub bytes : new ≡ laid at text out

-- ---- network text

unfoldable pub arcs_of : List Edge → List ℕ
arcs_of es = joined (map item_of (map arc es))

abbrev pub writing : Result ℕ Refusal → Reply ℕ
writing r = reply_of (λ k. k) r

abbrev pub write_outcome : Result ℕ Refusal → List ℕ → Outcome ℕ (List ℕ)
write_outcome r out = record { reply = writing r; memory = out }
