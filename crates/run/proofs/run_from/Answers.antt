-- `run::run_from` meets its contract. Assumes nothing.
use Rattle.property.proofs.Basics.{arith, ap, ◌∙◌}
use Rattle.property.specs.Property.{property}
use Rattle.run.specs.Run.{settle}
use Rattle.run.proofs.States.{ran_then}
use Rattle.run.proofs.run_from.Goals as goal

pub pass-passed-requires : goal.pass-passed-requires
pass-passed-requires c =
    let l = c.requires.0.low in record { ready = record { fit = c.requires.0.fit; sized = c.requires.0.sized; low = record { taken = omega arith; rounds = omega arith; stores = omega arith } }; scheduled = c.requires.1 }

pub returns : goal.returns
returns c =
    let a = c.args in
    (λ es o. c.settle.ensures.result_after es o ∙ ap (settle (property a.p) es a.n a.n) (c.pass-passed.ensures.result_after es o), ran_then c.pass-passed.ensures.ran c.settle.ensures.ran (omega arith) (omega arith) (omega arith))
