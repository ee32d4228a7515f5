-- Routes and best values: document 01, "Network" and "Words of demand 3". They speak of edges alone, never of what a run found.
-- Assumes nothing.
--
--   Route P es s t v == a route from s to t along edges of es, of value v: its value starts at the source's and goes along
--   Best P es s t v  == v is the best value from s to t: that of a route which no route betters, or the no-route word where
--                         there is no route
use Rattle.std.specs.Prelude.{◌≡◌, ◌⊎◌, false, ℕ}
use mathlib.Core.List.{List, Memᴰ}
use Rattle.property.specs.Property.{Property}
use Rattle.graph.specs.Edge.{Edge}

pub data Route (P : Property) (es : List Edge) (s : ℕ) : ℕ → ℕ → Type 0 where
  here : Route P es s s P.start
  step : {e : Edge} {v : ℕ} → Route P es s e.tail v → Memᴰ e es → Route P es s e.head (P.along v e.weight)

pub record Best (P : Property) (es : List Edge) (s t v : ℕ) : Type 0 where
  pub unbettered : (u : ℕ) → Route P es s t u → P.better u v ≡ false
  pub attained : Route P es s t v ⊎ (((u : ℕ) → Route P es s t u → ⊥) × (v ≡ P.none))
