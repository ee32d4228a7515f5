-- Text by document 01 alone, "no pair twice", beside text by document 02, Five, which "accepts twins, refuses equal lines". Assumes nothing.
--
--   SimpleGood text n es == text is a good text by document 01 alone, of a network with n vertices and the edges es
--   IsSimpleGood text    == text is a good text by document 01 alone
--
-- and the claims, each with its theorem in proofs/Upgrade.antt:
--
--   TextConserved   == a text that is good by document 01 alone is good, with the same n and edges: it is read alike       text_conserved
--   SimpleConserved == a good text whose edges have no twins is good by document 01 alone, with the same n and edges      simple_conserved
--   PlacesConserved == a text that is refused by both is refused at the same line or a later one                          places_conserved
use Rattle.std.specs.Prelude.{◌≡◌, ℕ, ◌≤◌, ◌<◌, length}
use mathlib.Core.List.{List, [], ◌∷◌, map, foldl}
use Rattle.graph.specs.Limits.{max_vertices, max_edges}
use Rattle.graph.specs.Edge.{Edge}
use Rattle.graph.specs.Sorted.{insert}
use Rattle.graph.specs.Simple.{pair_order, Simple}
use Rattle.dimacs.specs.Lines.{Spelled, Place}
use Rattle.dimacs.specs.Network.{problem, arc, item_of, Edges, Good, IsGood}

pub record SimpleGood (text : List ℕ) (n : ℕ) (es : List Edge) : Type 0 where
  pub arcs : List Edge
  pub spelled : Spelled item_of text (problem n (length arcs) ∷ map arc arcs)
  pub some_vertex : 0 < n
  pub vertices : n ≤ max_vertices
  pub few : length arcs ≤ max_edges
  pub edges : Edges n arcs
  pub simple : Simple arcs
  pub table : es ≡ foldl (λ fs e. insert pair_order e fs) [] arcs

abbrev pub IsSimpleGood : List ℕ → Type 0
IsSimpleGood text = (n : ℕ) × (es : List Edge) × SimpleGood text n es

abbrev pub TextConserved : Type 0
TextConserved = (text : List ℕ) (n : ℕ) (es : List Edge) → SimpleGood text n es → Good text n es

abbrev pub SimpleConserved : Type 0
SimpleConserved = (text : List ℕ) (n : ℕ) (es : List Edge) → Good text n es → Simple es → SimpleGood text n es

abbrev pub PlacesConserved : Type 0
PlacesConserved = (text : List ℕ) (j k : ℕ) → Place IsSimpleGood text j → Place IsGood text k → j ≤ k
