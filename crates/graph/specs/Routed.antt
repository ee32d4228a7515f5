-- What the no-route word says: document 01, "Words of demand 3": "or the no-route word where there is none". Assumes nothing.
--
--   Routed P es s t v   == v is the no-route word exactly where there is no route from s to t
use Rattle.std.specs.Prelude.{◌≡◌, ◌↔◌, List, ℕ}
use Rattle.property.specs.Property.{Property}
use Rattle.graph.specs.Edge.{Edge}
use Rattle.graph.specs.Route.{Route}

abbrev pub Routed : Property → List Edge → ℕ → ℕ → ℕ → Type 0
Routed P es s t v = (v ≡ P.none) ↔ ((u : ℕ) → Route P es s t u → ⊥)
