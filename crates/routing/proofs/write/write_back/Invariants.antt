-- `routing::write::write_back` meets its contract: what is still to be written, over the lists as they are, comes to the same. Assumes nothing.
use Rattle.property.proofs.Basics.{◌≡◌, List, ℕ, length, take}
use Rattle.graph.specs.Refusal.{over}
use Rattle.graph.specs.Edge.{Edge}
use Rattle.graph.specs.Leads.{visited, weights_of}
use Rattle.search.specs.Code.{Trace}
use Rattle.routing.proofs.Writing.{At}
use Rattle.routing.proofs.write.write_back.Given as goal

abbrev pub invariant-loop-i : goal.invariant-loop-i
invariant-loop-i l =
    ((s : ℕ) (ps : List Edge) → Trace s l.t l.via ps → l.k ≡ length ps
    → At s ps l.i l.u × (over (take l.i (visited s ps)) l.vertices ≡ over (visited s ps) l.initial.vertices)
    × (over (take l.i (weights_of ps)) l.figures ≡ over (weights_of ps) l.initial.figures))
