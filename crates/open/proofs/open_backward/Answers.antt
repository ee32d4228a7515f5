-- `open::open_backward` meets its contract. Assumes nothing.
use Rattle.property.proofs.Basics.{arith}
use Rattle.open.proofs.open_backward.Goals as goal

pub index_reversed-requires : goal.index_reversed-requires
index_reversed-requires c =
    let o = c.requires.openable in
    record { few = o.few; records = o.records; room = o.room; rules = o.rules; firsts = omega (arith, o.few); list = omega (arith, o.few, o.records) }

pub open_rows-requires : goal.open_rows-requires
open_rows-requires c =
    record { fit = (c.index_reversed.ensures.fit, c.requires.openable.landmarks); n_in_bounds = c.requires.n_in_bounds }

pub returns : goal.returns
returns c =
    c.open_rows.ensures _ c.index_reversed.ensures.own
