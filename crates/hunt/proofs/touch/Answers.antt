-- `hunt::touch` meets its contract. Assumes nothing.
use Rattle.property.proofs.Basics.{◌≡◌, sym, ◌∙◌, ◌&&◌, ◌||◌}
use Rattle.property.specs.Property.{property}
use Rattle.frontier.specs.Waiting.{waiting_of}
use Rattle.graph.specs.Arc.{arc_head}
use Rattle.affected.specs.Affected.{marked}
use Rattle.hunt.specs.Code.{marks_head}
use Rattle.hunt.proofs.touch.Goals as goal

pub returns-then-contains : goal.returns-then-contains
returns-then-contains c =
    let seen : let a = c.args in marked (waiting_of a.marks.now) (arc_head a.a) ≡ c.contains.result = rw (sym c.head-h.ensures) (sym c.contains.ensures) in
    let z = seen ∙ c.if-contains.true in record { marks_after = rw z; todo_after = rw z }

pub returns-then-is_held-on : goal.returns-then-is_held-on
returns-then-is_held-on c =
    let seen : let a = c.args in marked (waiting_of a.marks.now) (arc_head a.a) ≡ c.contains.result = rw (sym c.head-h.ensures) (sym c.contains.ensures) in
    let tested : let a = c.args in
    marks_head (property a.p) a.s a.words.now (waiting_of a.marks.now) a.v a.on a.a a.other ≡ (c.is_held.result && (a.on || c.is_lost.result)) = rw (seen ∙ c.if-contains.false, c.is_lost.ensures, c.is_held.ensures, c.weight.ensures, c.weight-w.ensures, c.head-h.ensures) in
    let h = c.head-h.ensures in
    let z = tested ∙ c.if-is_held-on.true in record { marks_after = rw (z, sym h) c.insert.ensures; todo_after = rw (z, sym h) c.insert-then-is_held-on.ensures }

pub returns-else-is_held-on : goal.returns-else-is_held-on
returns-else-is_held-on c =
    let seen : let a = c.args in marked (waiting_of a.marks.now) (arc_head a.a) ≡ c.contains.result = rw (sym c.head-h.ensures) (sym c.contains.ensures) in
    let tested : let a = c.args in
    marks_head (property a.p) a.s a.words.now (waiting_of a.marks.now) a.v a.on a.a a.other ≡ (c.is_held.result && (a.on || c.is_lost.result)) = rw (seen ∙ c.if-contains.false, c.is_lost.ensures, c.is_held.ensures, c.weight.ensures, c.weight-w.ensures, c.head-h.ensures) in
    let z = tested ∙ c.if-is_held-on.false in record { marks_after = rw z; todo_after = rw z }
