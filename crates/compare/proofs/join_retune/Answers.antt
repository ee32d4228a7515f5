-- `compare::join_retune` meets its contract. Assumes nothing.
use Rattle.property.proofs.Basics.{arith, sym, ◌∙◌, ◌+◌, ◌*◌, ◌<◌, length, length-set}
use Rattle.compare.specs.Code.{put, joined}
use Rattle.compare.proofs.Ruled.{length_put}
use Rattle.compare.proofs.Joining.{retune_next}
use Rattle.compare.proofs.join_retune.Goals as goal

pub bounds-list-next : goal.bounds-list-next
bounds-list-next c =
    let within : let a = c.args in 2 * (a.k + 1) + 1 < length a.list.now = omega (arith, c.requires.1, retune_next c.args.list.now c.args.size c.args.k (sym c.is_retune.ensures ∙ c.if-is_retune.true)) in
    let w = within in omega arith

pub bounds-list-next-then-is_retune : goal.bounds-list-next-then-is_retune
bounds-list-next-then-is_retune c =
    let within : let a = c.args in 2 * (a.k + 1) + 1 < length a.list.now = omega (arith, c.requires.1, retune_next c.args.list.now c.args.size c.args.k (sym c.is_retune.ensures ∙ c.if-is_retune.true)) in
    within

pub bounds-list-next-then-is_retune-2 : goal.bounds-list-next-then-is_retune-2
bounds-list-next-then-is_retune-2 c =
    let within : let a = c.args in 2 * (a.k + 1) + 1 < length a.list.now = omega (arith, c.requires.1, retune_next c.args.list.now c.args.size c.args.k (sym c.is_retune.ensures ∙ c.if-is_retune.true)) in
    let a = c.args in
    let w = within in
    omega (arith, length_put a.list.now a.k c.chosen.result c.chosen-then-is_retune.result)

pub bounds-list-next-then-is_retune-3 : goal.bounds-list-next-then-is_retune-3
bounds-list-next-then-is_retune-3 c =
    let within : let a = c.args in 2 * (a.k + 1) + 1 < length a.list.now = omega (arith, c.requires.1, retune_next c.args.list.now c.args.size c.args.k (sym c.is_retune.ensures ∙ c.if-is_retune.true)) in
    let a = c.args in
    let w = within in
    let y = put a.list.now a.k c.chosen.result c.chosen-then-is_retune.result in
    omega (arith, length-set y (2 * (a.k + 1)) c.arc.result, length_put a.list.now a.k c.chosen.result c.chosen-then-is_retune.result)

pub returns-then-is_retune : goal.returns-then-is_retune
unfolding joined
returns-then-is_retune c =
    rw (
      sym c.is_retune.ensures ∙ c.if-is_retune.true,
      c.chosen.ensures,
      c.chosen-then-is_retune.ensures,
      c.weight-come.ensures,
      c.arc.ensures,
      c.head.ensures,
      c.arc-then-is_retune.ensures,
      c.head-then-is_retune.ensures,
    )
