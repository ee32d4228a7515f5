-- `frontier::slices::count` meets its contract. The loop's invariant: what was counted, and what waits from word `w-index` on, make up the whole.
-- Assumes nothing.
use Rattle.property.proofs.Basics.{◌≡◌, ◌+◌, drop}
use Rattle.frontier.specs.Waiting.{waiting_of, count_of}
use Rattle.frontier.proofs.slices.count.Given as goal

abbrev pub invariant-loop-w : goal.invariant-loop-w
invariant-loop-w l =
    count_of (waiting_of l.ws) ≡ l.n + count_of (waiting_of (drop l.w-index l.ws))
