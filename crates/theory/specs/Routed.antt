-- The no-route word tells that there is no route: document 01, "Words of demand 3" ("or the no-route word where there is none"). `Best` alone
-- also lets a best route have that value; on 256 vertices, with weights up to 65,535, none has. Assumes nothing.
--
-- The claim, with its theorem in proofs/Routed.antt:
--
--   BestRouted   == on a table of at most 256 vertices a best value is the no-route word exactly where there is no route    best_routed
use Rattle.std.specs.Prelude.{◌≡◌, List, ℕ, ◌≤◌, ◌<◌}
use Rattle.property.specs.Property.{property}
use Rattle.graph.specs.Limits.{max_vertices}
use Rattle.graph.specs.Refusal.{accept}
use Rattle.graph.specs.Edge.{Edge}
use Rattle.graph.specs.Table.{rules}
use Rattle.graph.specs.Route.{Best}
use Rattle.graph.specs.Routed.{Routed}

abbrev pub BestRouted : Type 0
BestRouted = (p n : ℕ) (es : List Edge) → n ≤ max_vertices → rules n es ≡ accept → (s t v : ℕ) → s < n → Best (property p) es s t v
    → Routed (property p) es s t v
