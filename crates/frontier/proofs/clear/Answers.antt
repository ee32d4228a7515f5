-- `frontier::clear` meets its contract. Assumes nothing.
use Rattle.property.proofs.Basics.{◌≡◌, ap, ◌∙◌, false, ℕ, ◌*◌, arith, length, replicate}
use Rattle.frontier.proofs.clear.Goals as goal

pub returns : goal.returns
returns g c =
    let e : 64 * length c.args.ws.now ≡ 64 * g.row.N = omega arith in c.clear.ensures ∙ ap (λ (k : ℕ). replicate k false) e
