-- `listing::lines::settle_row` meets its contract. Assumes nothing.
use Rattle.property.proofs.Basics.{sym, ap, ℕ, replicate, length-take-le}
use Rattle.graph.specs.Limits.{max_vertices}
use Rattle.graph.proofs.Lists.{take_replicate}
use Rattle.listing.proofs.lines.settle_row.Goals as goal

pub slice_bounds-query-end-2 : goal.slice_bounds-query-end-2
slice_bounds-query-end-2 c =
    sym (length-take-le _ (replicate max_vertices 0) c.requires.0)

pub returns : goal.returns
returns c =
    rw (take_replicate {A = ℕ} c.args.n max_vertices 0 c.requires.0, c.fill.ensures, c.requires.1) at (ap (λ o. o.memory.settled) c.query.ensures)
