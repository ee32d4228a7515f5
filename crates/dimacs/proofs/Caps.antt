-- Code stops counting a number at a cap c while it goes on eating its digits. No reader can tell: neither what follows the
-- number nor any limit below the cap. Assumes nothing.
use Rattle.property.proofs.Basics.{◌≡◌, sym, ◌∙◌, Bool, true, ◌&&◌, cond, none, some, List, [], ◌∷◌, ◌++◌, ℕ, ◌+◌, ◌-◌, ◌*◌, ◌≤◌, ◌<◌, min, arith, leb, ltb, length, ltb-true, leb-true}
use Rattle.property.proofs.Tests.{by_test}
use Rattle.graph.specs.Limits.{max_vertices, max_edges, max_weight}
use Rattle.graph.specs.Edge.{Edge, edge}
use Rattle.graph.specs.Table.{insert}
use Rattle.graph.proofs.Tests.{both}
use Rattle.graph.proofs.Order.{edge_facts}
use Rattle.dimacs.proofs.Network.{opens_when, takes_when}
use Rattle.dimacs.specs.Decimal.{is_digit, scan}
use Rattle.dimacs.specs.Network as net
use Rattle.dimacs.specs.Sources as src

-- ---- numbers

-- the number up to the cap, and what follows it
abbrev pub capped : ℕ → ℕ × List ℕ → ℕ × List ℕ
capped c q = (min q.0 c, q.1)

-- a number above the cap stays above it, whatever digits follow
pub scan_capped : (c : ℕ) (s : List ℕ) (v : ℕ) → capped c (scan (min v c) s) ≡ capped c (scan v s)
unfolding scan
scan_capped c [] v = let e : min (min v c) c ≡ min v c = omega arith in rw e
scan_capped c (b ∷ s) v = by_test (is_digit b)
    (λ e.
    let w : min (min v c * 10 + (b - 48)) c ≡ min (v * 10 + (b - 48)) c = omega arith in
    rw e (sym (scan_capped c s (min v c * 10 + (b - 48))) ∙ rw w (scan_capped c s (v * 10 + (b - 48)))))
    (λ e. let w : min (min v c) c ≡ min v c = omega arith in rw (e, w))

-- ---- lines

-- where either of two is taken, they are the same: so what a capped item leads to is what the item leads to
taken_same : {X Y : Type 0} (t : X → Bool) (f : X → Y) (x y : X) → (t x ≡ true → x ≡ y) → (t y ≡ true → x ≡ y) → cond (t x) (some (f x)) none ≡ cond (t y) (some (f y)) none
taken_same t f x y g h = by_test (t x) (λ p. rw (g p)) (λ p. by_test (t y) (λ q. rw (h q)) (λ q. rw (p, q)))

module _ (c : ℕ) where
  pub problem_capped : max_edges < c → (n m : ℕ) → net.act net.start (net.problem (min n c) (min m c)) ≡ net.act net.start (net.problem n m)
  unfolding net.act
  problem_capped l n m = taken_same (λ (h : ℕ × ℕ). net.opens h.0 h.1) (λ h. net.within h.0 h.1 []) (min n c, min m c) (n, m)
      (λ p. let (x, y, z, w) = (opens_when (min n c) (min m c)).0 p in same (omega arith) (omega arith))
      (λ q. let (x, y, z, w) = (opens_when n m).0 q in same (omega arith) (omega arith))
    where
      same : min n c ≡ n → min m c ≡ m → ◌≡◌ {A = ℕ × ℕ} (min n c, min m c) (n, m)
      same p q = rw (p, q)

  -- the text has the vertices from 1: a number t + 1 at the cap is vertex c − 1
  pub arc_capped : max_weight < c → (n m : ℕ) (es : List Edge) (t h w : ℕ) → n ≤ max_vertices
      → net.act (net.within n m es) (net.arc (edge (min t (c - 1)) (min h (c - 1)) (min w c))) ≡ net.act (net.within n m es) (net.arc (edge t h w))
  unfolding net.act
  arc_capped l n m es t h w k = taken_same (net.takes n m es) (λ e. net.within n m (insert e es)) (edge (min t (c - 1)) (min h (c - 1)) (min w c)) (edge t h w)
      (λ p. let s = edge_facts n (edge (min t (c - 1)) (min h (c - 1)) (min w c)) ((takes_when n m es (edge (min t (c - 1)) (min h (c - 1)) (min w c))).0 p).1 in same s.tail_below s.head_below s.weight_most)
      (λ q. let s = edge_facts n (edge t h w) ((takes_when n m es (edge t h w)).0 q).1 in same (omega (arith, s.tail_below)) (omega (arith, s.head_below)) (omega (arith, s.weight_most)))
    where
      same : min t (c - 1) < n → min h (c - 1) < n → min w c ≤ max_weight → edge (min t (c - 1)) (min h (c - 1)) (min w c) ≡ edge t h w
      same p q r =
          let a : min t (c - 1) ≡ t = omega arith in
          let b : min h (c - 1) ≡ h = omega arith in
          let d : min w c ≡ w = omega arith in
          rw (a, b, d)

  pub header_capped : src.max_sources < c → (n k : ℕ) → src.act n src.start (src.header (min k c)) ≡ src.act n src.start (src.header k)
  unfolding src.act
  header_capped l n k = taken_same (λ j. leb j src.max_sources) (λ j. src.within j []) (min k c) k (λ p. omega (arith, leb-true (min k c) src.max_sources p)) (λ q. omega (arith, leb-true k src.max_sources q))

  pub source_capped : (n : ℕ) → n < c → (k : ℕ) (ss : List ℕ) (v : ℕ) → src.act n (src.within k ss) (src.source (min v (c - 1))) ≡ src.act n (src.within k ss) (src.source v)
  unfolding src.act
  source_capped n l k ss v = taken_same (λ u. ltb (length ss) k && ltb u n) (λ u. src.within k (ss ++ (u ∷ []))) (min v (c - 1)) v
      (λ p. omega (arith, ltb-true (min v (c - 1)) n (both (ltb (length ss) k) _ p).1))
      (λ q. omega (arith, ltb-true v n (both (ltb (length ss) k) _ q).1))
