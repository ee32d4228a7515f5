-- Best values: from any vertex to any other there is one, and one only, for any property with the laws: document 01, "Words of demand 3"
-- ("The best value from one station to another or to itself"). Assumes nothing.
--
--   Weighed es   == weights are words
--
-- and the claims, each with its theorem in proofs/Exists.antt:
--
--   BestExists == there is a best value, on any edges whose weights are words                                        best_exists
--   BestUnique == there are no two of them                                                                           best_unique
use Rattle.std.specs.Prelude.{◌≡◌, ℕ, ◌≤◌}
use mathlib.Core.List.{List, Memᴰ}
use Rattle.property.specs.Property.{M, Property}
use Rattle.property.specs.Laws.{Laws}
use Rattle.graph.specs.Edge.{Edge}
use Rattle.graph.specs.Route.{Best}

abbrev pub Weighed : List Edge → Type 0
Weighed es = (e : Edge) → Memᴰ e es → e.weight ≤ M

abbrev pub BestExists : Type 0
BestExists = (P : Property) → Laws P → (es : List Edge) → Weighed es → (s t : ℕ) → (v : ℕ) × Best P es s t v

abbrev pub BestUnique : Type 0
BestUnique = (P : Property) → Laws P → (es : List Edge) (s t v w : ℕ) → Best P es s t v → Best P es s t w → v ≡ w
