-- `sources::read_text` meets its contract: what is left of the file, from the state so far, comes to the same answer. Assumes nothing.
use Rattle.property.proofs.Basics.{◌-◌, length}
use Rattle.dimacs.specs.Sources as src
use Rattle.sources.specs.Code.{Held, state_of}
use Rattle.scanner.proofs.Steps.{Left}
use Rattle.sources.proofs.read_text.Given as goal

abbrev pub invariant-loop-at : goal.invariant-loop-at
invariant-loop-at l =
    Left src.item_in (src.act l.n) src.complete l.text l.at l.k (state_of l.list l.state) (src.read_sources l.n l.text) × Held l.state l.list

abbrev pub decreases-loop-at : goal.decreases-loop-at
decreases-loop-at l =
    length l.text - l.at
