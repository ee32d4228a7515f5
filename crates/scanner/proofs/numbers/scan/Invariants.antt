-- `scanner::numbers::scan` meets its contract: what is left to read, from the value so far, comes to the same. Assumes nothing.
use Rattle.property.proofs.Basics.{◌≡◌, ◌≤◌, drop}
use Rattle.scanner.specs.Capped.{cap_scan}
use Rattle.scanner.proofs.numbers.scan.Given as goal

abbrev pub invariant-loop-i : goal.invariant-loop-i
invariant-loop-i l =
    (cap_scan l.value (drop l.i l.s) ≡ cap_scan l.first (drop l.start l.s)) × (l.value ≤ 65536)
