-- `values::print_parts` meets its contract: no piece is past the last. Assumes nothing.
use Rattle.property.proofs.Basics.{◌+◌, ◌≤◌}
use Rattle.listing.specs.Code.{sources_in}
use Rattle.values.proofs.print_parts.Given as goal

abbrev pub invariant-loop-i : goal.invariant-loop-i
invariant-loop-i l = l.count ≤ sources_in l.prepared + 1
