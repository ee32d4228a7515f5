-- What the rows of each side are run on, from what the batch has. Assumes nothing.
use Rattle.property.proofs.Basics.{◌≡◌, refl, sym, ap, List, [], ◌∷◌, map, ℕ}
use Rattle.graph.specs.Edge.{Edge, reverse}
use Rattle.graph.proofs.Edges.{reverse_mem}
use Rattle.compare.specs.Code.{Differences}
use Rattle.rows.specs.Code.{Sided}
use Rattle.sides.specs.Code.{Sides}

reverse_twice : (fs : List Edge) → map reverse (map reverse fs) ≡ fs
reverse_twice [] = refl
reverse_twice (f ∷ fs) = ap (λ (l : List Edge). f ∷ l) (reverse_twice fs)

module _ (n : ℕ) (es fs : List Edge) (xs is ris ns rns : List ℕ) (s : Sides n es fs xs is ris ns rns) where
  pub side_forward : Sided n es fs xs is ns rns
  side_forward = record {
    batch = record { inside = s.before; into = λ e m. (s.after e m).1; old = s.old; new = s.rnew; net = s.net };
    new = s.new;
  }

  pub side_backward : (ys : List ℕ) → Differences (map reverse es) (map reverse fs) ys → Sided n (map reverse es) (map reverse fs) ys ris rns ns
  side_backward ys d = record {
    batch = record {
      inside = λ e m. let z = s.before (reverse e) (reverse_mem es e m) in (z.1, z.0, λ q. z.2 (sym q));
      into = λ e m. (s.after (reverse e) (reverse_mem fs e m)).0;
      old = s.rold;
      new = rw (reverse_twice fs) s.new;
      net = d;
    };
    new = s.rnew;
  }
