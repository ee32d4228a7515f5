-- `routing::write::mark_edges` meets its contract: the marks of the edges still to come, over the list as it is, come to the same. Assumes nothing.
use Rattle.property.proofs.Basics.{◌≡◌, List, ℕ, length}
use Rattle.property.specs.Property.{property}
use Rattle.graph.specs.Refusal.{over}
use Rattle.graph.specs.Edge.{Edge}
use Rattle.graph.specs.Leads.{weights_of}
use Rattle.answers.specs.Routing.{marks_of}
use Rattle.routing.proofs.Writing.{Marking}
use Rattle.routing.proofs.write.mark_edges.Given as goal

abbrev pub invariant-loop-i : goal.invariant-loop-i
invariant-loop-i l =
    ((ps : List Edge) (ws : List ℕ) → length ps ≡ l.k → l.figures ≡ over (weights_of ps) ws → Marking l.p l.v l.i l.k l.figures l.marks (over (marks_of l.p (property l.p).start ps) l.initial.marks))
