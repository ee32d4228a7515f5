-- `graph::ends::firsts` meets its contract. Assumes nothing.
use Rattle.property.proofs.Basics.{sym}
use Rattle.graph.proofs.Parted.{parted_firsts}
use Rattle.graph.proofs.ends.firsts.Goals as goal

pub returns : goal.returns
returns c =
    let a = c.args in
    λ u h. sym (parted_firsts a.count a.keys.now u _ c.requires.0.keys (c.carry_ends.ensures a.count a.keys.now c.store_ends.ensures u h))
