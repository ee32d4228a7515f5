-- `prepare::wake_change` meets its contract. Assumes nothing.
use Rattle.property.proofs.Basics.{arith, ◌≡◌, sym, ap₂, ◌∙◌, ◌*◌}
use Rattle.property.specs.Property.{property}
use Rattle.compare.specs.Code.{before, after}
use Rattle.prepare.specs.Code.{edge_lost}
use Rattle.prepare.proofs.wake_change.Goals as goal

pub overflow_cast-t : goal.overflow_cast-t
overflow_cast-t c =
    omega (arith, c.head-t.ensures)

pub insert-requires : goal.insert-requires
insert-requires c =
    omega (arith, c.requires.1 (2 * c.args.k) (omega (arith, c.requires.0)), c.head-t.ensures)

pub returns-then-is_edge_lost : goal.returns-then-is_edge_lost
returns-then-is_edge_lost c =
    let adds : let a = c.args in
    c.is_edge_lost.result ≡ edge_lost (property a.p) (after a.net.now a.k).weight (before a.net.now a.k).weight = c.is_edge_lost.ensures ∙ ap₂ (edge_lost (property _)) c.weight.ensures c.weight-2.ensures in
    let z = sym adds ∙ c.if-is_edge_lost.true in rw z (rw c.head-t.ensures at c.insert.ensures)

pub returns-else-is_edge_lost : goal.returns-else-is_edge_lost
returns-else-is_edge_lost c =
    let adds : let a = c.args in
    c.is_edge_lost.result ≡ edge_lost (property a.p) (after a.net.now a.k).weight (before a.net.now a.k).weight = c.is_edge_lost.ensures ∙ ap₂ (edge_lost (property _)) c.weight.ensures c.weight-2.ensures in
    let z = sym adds ∙ c.if-is_edge_lost.false in rw z
