-- `listing::lines::put_refused` meets its contract. Assumes nothing.
use Rattle.property.proofs.Basics.{arith}
use Rattle.listing.specs.Listing.{refused_line}
use Rattle.listing.proofs.Rows.{refused_most}
use Rattle.listing.proofs.lines.put_refused.Goals as goal

pub put_line-requires : goal.put_line-requires
put_line-requires c =
    let a = c.args in
    record { room = omega (arith, refused_most a.number a.place (omega arith) (omega arith)) }

pub returns : goal.returns
unfolding refused_line
returns c =
    let a = c.args in
    let w = c.put_line.ensures in record { wrote = w; upper_bound = omega (arith, w.next, refused_most a.number a.place (omega arith) (omega arith), c.put_line.auto.out, c.requires) }
