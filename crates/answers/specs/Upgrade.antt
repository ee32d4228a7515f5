-- Routes where no pair stands twice: document 02, Five, beside Two. Assumes nothing.
--
--   PreferredSimply P es s t ps == what document 02, Two, alone asks of the route: best, with the fewest edges, then with the lowest vertex
--   RoutesConserved             == the claim: on edges in which no pair stands twice, that is the preferred route
use Rattle.std.specs.Prelude.{◌≡◌, false, List, ℕ, ◌≤◌, length}
use Rattle.property.specs.Property.{Property}
use Rattle.graph.specs.Edge.{Edge}
use Rattle.graph.specs.Simple.{Simple}
use Rattle.graph.specs.Leads.{visited, lower, BestLeads, Preferred}

pub record PreferredSimply (P : Property) (es : List Edge) (s t : ℕ) (ps : List Edge) : Type 0 where
  pub best : BestLeads P es s t ps
  pub fewest : (qs : List Edge) → BestLeads P es s t qs → length ps ≤ length qs
  pub lowest : (qs : List Edge) → BestLeads P es s t qs → length qs ≡ length ps → lower (visited s qs) (visited s ps) ≡ false

abbrev pub RoutesConserved : Type 0
RoutesConserved = (P : Property) (es : List Edge) (s t : ℕ) (ps : List Edge) → Simple es → PreferredSimply P es s t ps → Preferred P es s t ps
