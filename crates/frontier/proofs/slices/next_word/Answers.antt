-- `frontier::slices::next_word` meets its contract. The loop's invariant: nobody waits from word `from` on before word `k`. Assumes nothing.
use Rattle.property.proofs.Basics.{refl, sym, ◌∙◌, ◌<◌, arith, length, get_or}
use Rattle.frontier.proofs.Seek.{bit_fits, place_fits, next_end, next_whole, first_here, first_later}
use Rattle.frontier.proofs.slices.next_word.Goals as goal

pub loop-k-init : goal.loop-k-init
loop-k-init c =
    refl

pub overflow_cast-result : goal.overflow_cast-result
overflow_cast-result c =
    bit_fits _

pub overflow_add-result : goal.overflow_add-result
overflow_add-result c =
    place_fits _ _ c.loop-k-test.true c.requires

pub returns-then-ws-k-ne0 : goal.returns-then-ws-k-ne0
returns-then-ws-k-ne0 c =
    let ws = c.args.ws.now in
    let at = c.loop-k in
    let l : at.k < length ws = omega arith in
    sym (at.invariant ∙ next_whole ws at.k l ∙ first_here ws at.k l (get_or ws at.k 0) (omega arith) c.if-ws-k-ne0.true)

pub loop-k-preserved : goal.loop-k-preserved
loop-k-preserved c =
    let ws = c.args.ws.now in
    let at = c.loop-k in
    let l : at.k < length ws = omega arith in
    at.invariant ∙ next_whole ws at.k l ∙ first_later ws at.k l (get_or ws at.k 0) c.if-ws-k-ne0.false

pub returns : goal.returns
returns c =
    sym (c.loop-k.invariant ∙ next_end c.args.ws.now c.loop-k.k (omega arith))
