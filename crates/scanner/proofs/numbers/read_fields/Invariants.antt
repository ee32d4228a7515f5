-- `scanner::numbers::read_fields` meets its contract: the fields so far and those that are left come to the same. Assumes nothing.
use Rattle.property.proofs.Basics.{◌≡◌, length, drop}
use Rattle.dimacs.specs.Read.{fields}
use Rattle.scanner.specs.Capped.{cap_fields}
use Rattle.scanner.proofs.Fields.{Turn}
use Rattle.scanner.proofs.numbers.read_fields.Given as goal

abbrev pub invariant-loop-value : goal.invariant-loop-value
invariant-loop-value g l =
    Turn g.row.N l.value-index l.value-items (drop l.end l.s) (cap_fields (fields g.row.N (drop l.at l.s))) × (length l.value-items ≡ g.row.N)
