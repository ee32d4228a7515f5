-- Backward rows: best values of the reversed edges are best values the other way round. Assumes nothing.
use Rattle.property.proofs.Basics.{inl, inr, ⊎_elim, List, map, Memᴰ, ℕ}
use Rattle.property.specs.Property.{Property}
use Rattle.property.specs.Laws.{Joins}
use Rattle.graph.specs.Edge.{Edge, reverse}
use Rattle.graph.specs.Route.{Route, here, step, Best}
use Rattle.graph.proofs.Edges.{mem_reverse, reverse_mem}
use Rattle.graph.proofs.Order.{Within}

pub within_reverse : (n : ℕ) (es : List Edge) → Within n es → Within n (map reverse es)
within_reverse n es w = record {
  tails = λ e m. w.heads (reverse e) (reverse_mem es e m);
  heads = λ e m. w.tails (reverse e) (reverse_mem es e m);
  weights = λ e m. w.weights (reverse e) (reverse_mem es e m);
}

module _ {P : Property} (J : Joins P) where
  -- an edge in front of a route: as edges may be gone along in either order, it may as well be gone along last
  edge_before_lem : {es : List Edge} {e : Edge} {t u : ℕ} → Memᴰ e es → Route P es e.head t u → Route P es e.tail t (P.along u e.weight)
  edge_before_lem m here = step here m
  edge_before_lem {e = e} m (step {e = x} {v = v} r k) = rw (J.along_swaps v x.weight e.weight) (step (edge_before_lem m r) k)

  back : {es : List Edge} {p t u : ℕ} → Route P (map reverse es) p t u → Route P es t p u
  back here = here
  back {es} (step {e = x} r m) = edge_before_lem {e = reverse x} (reverse_mem es x m) (back r)

  pub forth : {es : List Edge} {t p u : ℕ} → Route P es t p u → Route P (map reverse es) p t u
  forth here = here
  forth (step {e = x} r m) = edge_before_lem {e = reverse x} (mem_reverse m) (forth r)

  -- Each route of the reversed edges, gone the other way, is a route of the edges, and the other way about. Both have the same value,
  -- since a value does not depend on the order in which its edges are gone along. So the best of one is the best of the other.
  pub reversed_best : {es : List Edge} {p t v : ℕ} → Best P (map reverse es) p t v → Best P es t p v
  reversed_best b = record {
    unbettered = λ u r. b.unbettered u (forth r);
    attained = ⊎_elim (λ r. inl (back r)) (λ c. inr (λ u r. c.0 u (forth r), c.1)) b.attained;
  }
