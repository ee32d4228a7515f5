-- `frontier::slices::count` meets its contract. The loop's invariant: what was counted, and what waits from word `w-index` on, make up the whole.
-- Assumes nothing.
use Rattle.property.proofs.Basics.{sym, zero-add, arith}
use Rattle.frontier.specs.Waiting.{waiting_of, count_of}
use Rattle.frontier.proofs.Counts.{count_word, count_end, count_words_le}
use Rattle.frontier.proofs.slices.count.Goals as goal

pub loop-w-init : goal.loop-w-init
loop-w-init c =
    sym (zero-add (count_of (waiting_of c.args.ws.now)))

pub overflow_cast-n : goal.overflow_cast-n
overflow_cast-n c =
    omega (arith, count_word c.args.ws.now c.loop-w.w-index (omega arith) (omega arith), count_words_le c.args.ws.now)

pub overflow_add-n : goal.overflow_add-n
overflow_add-n c =
    omega (arith, count_word c.args.ws.now c.loop-w.w-index (omega arith) (omega arith), count_words_le c.args.ws.now)

pub loop-w-preserved : goal.loop-w-preserved
loop-w-preserved c =
    omega (arith, count_word c.args.ws.now c.loop-w.w-index (omega arith) (omega arith))

pub returns : goal.returns
returns c =
    omega (arith, count_end c.args.ws.now c.loop-w.w-index (omega arith))
