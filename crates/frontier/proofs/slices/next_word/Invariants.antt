-- `frontier::slices::next_word` meets its contract. The loop's invariant: nobody waits from word `from` on before word `k`. Assumes nothing.
use Rattle.property.proofs.Basics.{◌≡◌, ◌*◌}
use Rattle.frontier.specs.Waiting.{waiting_of, next_from}
use Rattle.frontier.proofs.slices.next_word.Given as goal

abbrev pub invariant-loop-k : goal.invariant-loop-k
invariant-loop-k l =
    next_from (waiting_of l.ws) (l.from * 64) ≡ next_from (waiting_of l.ws) (l.k * 64)
