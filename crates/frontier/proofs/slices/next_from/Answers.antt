-- `frontier::slices::next_from` meets its contract. Assumes nothing.
use Rattle.property.proofs.Basics.{◌≡◌, sym, ap, ◌∙◌, List, ℕ, ◌-◌, ◌*◌, ◌/◌, ◌%◌, ◌^◌, ◌<◌, div-add-mod', lt_of_le_of_lt, arith, length, get_or}
use lib.Bits.{bit_and, and_le_l}
use Rattle.frontier.specs.Waiting.{waiting_of, next_from}
use Rattle.frontier.proofs.Word.{high_mask}
use Rattle.frontier.proofs.Seek.{bit_fits, place_fits, first, next_masked, first_here, first_later}
use Rattle.frontier.proofs.slices.next_from.Goals as goal

-- the word of i with the bits below i masked
abbrev masked : List ℕ → ℕ → ℕ
masked ws i = bit_and (get_or ws (i / 64) 0) ((2 ^ 64 - 1) * 2 ^ (i % 64) % 2 ^ 64)

here : (ws : List ℕ) (i : ℕ) (l : i / 64 < length ws) → next_from (waiting_of ws) i ≡ first ws (i / 64) l (masked ws i)
here ws i l = ap (next_from (waiting_of ws)) (sym (div-add-mod' i 64)) ∙ next_masked ws (i / 64) l (i % 64) _ (omega arith) (high_mask 64 (i % 64) (omega arith))

pub overflow_cast-result : goal.overflow_cast-result
overflow_cast-result c =
    bit_fits _

pub overflow_add-result : goal.overflow_add-result
overflow_add-result c =
    place_fits _ _ (omega (arith, c.requires.0)) c.requires.1

pub returns-then-w-ne0 : goal.returns-then-w-ne0
returns-then-w-ne0 c =
    let ws = c.args.ws.now in
    let i = c.args.i in
    let l : i / 64 < length ws = omega (arith, c.requires.0) in
    sym (here ws i l ∙ first_here ws (i / 64) l (masked ws i) (lt_of_le_of_lt (and_le_l (get_or ws (i / 64) 0) _) (omega arith)) c.if-w-ne0.true)

pub returns : goal.returns
returns c =
    let ws = c.args.ws.now in
    let i = c.args.i in
    let l : i / 64 < length ws = omega (arith, c.requires.0) in
    c.next_word.ensures ∙ sym (here ws i l ∙ first_later ws (i / 64) l (masked ws i) c.if-w-ne0.false)
