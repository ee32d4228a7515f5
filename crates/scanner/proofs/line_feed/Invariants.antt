-- `scanner::line_feed` meets its contract: no byte passed is a line feed. Assumes nothing.
use Rattle.property.proofs.Basics.{◌≡◌, true, ◌-◌, ◌≤◌, take, drop}
use Rattle.dimacs.specs.Lines.{plain}
use Rattle.scanner.proofs.line_feed.Given as goal

abbrev pub invariant-loop-i : goal.invariant-loop-i
invariant-loop-i l =
    (plain (take (l.i - l.at) (drop l.at l.text)) ≡ true) × (l.at ≤ l.i)
