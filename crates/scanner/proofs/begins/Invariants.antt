-- `scanner::begins` meets its contract: what is left of the mark, from here on in the line, comes to the same. Assumes nothing.
use Rattle.property.proofs.Basics.{◌≡◌, drop}
use Rattle.dimacs.specs.Read.{after}
use Rattle.scanner.proofs.begins.Given as goal

abbrev pub invariant-loop-i : goal.invariant-loop-i
invariant-loop-i l =
    after (drop l.i l.mark) (drop l.i l.line) ≡ after l.mark l.line
