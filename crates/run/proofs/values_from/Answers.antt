-- `run::values_from` meets its contract. Assumes nothing.
use Rattle.property.proofs.Basics.{◌∙◌, ap}
use Rattle.property.specs.Property.{property}
use Rattle.run.specs.Run.{settle}
use Rattle.run.proofs.values_from.Goals as goal

pub open_row-requires : goal.open_row-requires
open_row-requires c =
    let p = c.requires in (p.0, p.1.few, p.2)

pub run_unscheduled-requires : goal.run_unscheduled-requires
run_unscheduled-requires c =
    (c.requires.1, c.open_row.ensures.sized)

pub returns : goal.returns
returns c =
    let g = c.args in record { words_after = λ es h. ap (λ st. st.words) (c.run_unscheduled.ensures.result_after es h ∙ ap (settle (property g.p) es g.n g.n) c.open_row.ensures.no_counts_after); words_len = c.run_unscheduled.ensures.ran.sized.words }
