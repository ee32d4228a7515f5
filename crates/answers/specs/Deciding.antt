-- What the marks of a route tell of headroom and worst stretch: the one edge to look at. Assumes nothing.
--
--   decided v ps ms == the weight of the last edge of ps that ms marks, or v where it marks none
--   MarksDecide     == the claim: for headroom and worst stretch, the value of a route of one edge or more, marked from the source on, is the weight of
--                        its last marked edge, and there is one
use Rattle.std.specs.Prelude.{◌≡◌, ◌⊎◌, true, cond, List, [], ◌∷◌, ℕ, ◌<◌, length, eqb}
use Rattle.property.specs.Property.{property}
use Rattle.graph.specs.Refusal.{accept}
use Rattle.graph.specs.Edge.{Edge, exists}
use Rattle.graph.specs.Table.{rules}
use Rattle.graph.specs.Leads.{Leads, value_along}
use Rattle.answers.specs.Routing.{MarksFor}

unfoldable pub decided : ℕ → List Edge → List ℕ → ℕ
decided v [] ms = v
decided v (e ∷ ps) [] = v
decided v (e ∷ ps) (m ∷ ms) = decided (cond (eqb m 1) e.weight v) ps ms

abbrev pub MarksDecide : Type 0
MarksDecide = (p : ℕ) → (p ≡ 3) ⊎ (p ≡ 4) → (n : ℕ) (es : List Edge) → rules n es ≡ accept → (s t : ℕ) (ps : List Edge) (ms : List ℕ)
    → Leads es s ps t → MarksFor p (property p).start ps ms → 0 < length ps
    → (exists (eqb 1) ms ≡ true) × (value_along (property p) (property p).start ps ≡ decided (property p).start ps ms)
