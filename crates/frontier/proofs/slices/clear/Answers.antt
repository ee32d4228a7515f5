-- `frontier::slices::clear` meets its contract. Assumes nothing.
use Rattle.property.proofs.Basics.{◌≡◌, ap, ◌∙◌, false, ℕ, ◌*◌, arith, length, replicate}
use Rattle.frontier.specs.Waiting.{waiting_of}
use Rattle.frontier.proofs.Laws.{waiting_zero}
use Rattle.frontier.proofs.slices.clear.Goals as goal

pub returns : goal.returns
returns c =
    let e : length c.args.ws.now * 64 ≡ 64 * length c.args.ws.now = omega arith in
    ap waiting_of (c.fill.ensures.after (λ y e. e)) ∙ waiting_zero (length c.args.ws.now) ∙ ap (λ (k : ℕ). replicate k false) e
