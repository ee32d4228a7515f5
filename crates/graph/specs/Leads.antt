-- Routes edge by edge: document 01, "A route is a list of one or more stations, each joined to the next by a segment", and document 02,
-- Two and Five. They speak of edges alone, never of what a run found. Assumes nothing.
--
--   Leads es s ps t       == the edges ps, each of es and from the head of the one before, lead from s to t
--   visited s ps          == the vertices of that route: s, then the head of each edge
--   value_along P v ps    == the value after the edges ps, from v on
--   lower us vs           == at the first place where the two lists differ, us has the lower number
--   BestLeads P es s t ps == ps is a route from s to t whose value no route there betters
--   weights_of ps         == the weights ("figures") of the edges of a route
--   Preferred P es s t ps == of those one with the fewest edges, and then with the lowest vertex at the first place where two differ; and of all with these
--                              vertices that are best, whichever twins they take, none has a lower weight at any of its edges
use Rattle.std.specs.Prelude.{◌≡◌, Bool, false, ◌&&◌, ◌||◌, ℕ, ◌≤◌, length, get_or, eqb, ltb}
use mathlib.Core.List.{List, [], ◌∷◌, map, Memᴰ}
use Rattle.property.specs.Property.{Property}
use Rattle.graph.specs.Edge.{Edge}

pub data Leads (es : List Edge) : ℕ → List Edge → ℕ → Type 0 where
  stop : {s : ℕ} → Leads es s [] s
  on : {e : Edge} {ps : List Edge} {t : ℕ} → Memᴰ e es → Leads es e.head ps t → Leads es e.tail (e ∷ ps) t

abbrev pub visited : ℕ → List Edge → List ℕ
visited s ps = s ∷ map (λ e. e.head) ps

abbrev pub weights_of : List Edge → List ℕ
weights_of ps = map (λ e. e.weight) ps

unfoldable pub value_along : Property → ℕ → List Edge → ℕ
value_along P v [] = v
value_along P v (e ∷ ps) = value_along P (P.along v e.weight) ps

unfoldable pub lower : List ℕ → List ℕ → Bool
lower [] vs = false
lower (u ∷ us) [] = false
lower (u ∷ us) (v ∷ vs) = ltb u v || (eqb u v && lower us vs)

pub record BestLeads (P : Property) (es : List Edge) (s t : ℕ) (ps : List Edge) : Type 0 where
  pub leads : Leads es s ps t
  pub unbettered : (qs : List Edge) → Leads es s qs t → P.better (value_along P P.start qs) (value_along P P.start ps) ≡ false

-- "a best route ..: the fewest segments, then the lowest station at the first place where two differ"
pub record Preferred (P : Property) (es : List Edge) (s t : ℕ) (ps : List Edge) : Type 0 where
  pub best : BestLeads P es s t ps
  pub fewest : (qs : List Edge) → BestLeads P es s t qs → length ps ≤ length qs
  pub lowest : (qs : List Edge) → BestLeads P es s t qs → length qs ≡ length ps → lower (visited s qs) (visited s ps) ≡ false
  -- "for each segment .. the lowest figure with which the route keeps its value": all of them at once, for ps is best with these
  pub lightest : (qs : List Edge) → BestLeads P es s t qs → visited s qs ≡ visited s ps → (i : ℕ) → get_or (weights_of ps) i 0 ≤ get_or (weights_of qs) i 0
