-- `rows::batch_rows` meets its contract. Assumes nothing.
use Rattle.property.proofs.Basics.{List}
use Rattle.graph.specs.Edge.{Edge}
use Rattle.compare.specs.Code.{Faces}
use Rattle.rows.proofs.Rows.{Counting, Rowing}
use Rattle.rows.specs.Code.{Sided}
use Rattle.rows.proofs.batch_rows.Given as goal

abbrev pub invariant-loop-r : goal.invariant-loop-r
invariant-loop-r l =
    Counting l.initial.rows l.rows l.affected l.stores l.r l.size × ((es fs : List Edge) → Sided l.n es fs l.net l.old l.new l.into → Faces l.n es fs l.old l.other → Rowing l.n l.landmarks es fs l.initial.rows l.rows l.affected l.stores l.r)
