-- `graph::rules::in_order` meets its contract. Assumes nothing.
use Rattle.property.proofs.Basics.{◌≡◌, refl, ◌≢◌, Bool, true, false, ◌&&◌, ◌||◌, true≢false, ℕ, arith, ltb, le-ltb, eq-eqb, ne_eqb}
use Rattle.graph.specs.Edge.{edge, precedes}
use Rattle.graph.proofs.rules.in_order.Goals as goal

module _ (t h w u g x : ℕ) where
  -- words that differ decide
  decided : (a b c : Bool) → b ≡ false → a ≡ (a || (b && c))
  decided true b c q = refl
  decided false false c q = refl
  decided false true c q = absurd (true≢false q)

  by_tails : t ≢ u → ltb t u ≡ precedes (edge t h w) (edge u g x)
  by_tails d = decided _ _ _ (ne_eqb t u d)

  by_heads : t ≡ u → h ≢ g → ltb h g ≡ precedes (edge t h w) (edge u g x)
  by_heads p d = rw (le-ltb t u (omega arith), eq-eqb t u p) (decided _ _ _ (ne_eqb h g d))

  by_weights : t ≡ u → h ≡ g → ltb w x ≡ precedes (edge t h w) (edge u g x)
  by_weights p q = rw (le-ltb t u (omega arith), eq-eqb t u p, le-ltb h g (omega arith), eq-eqb h g q)

pub returns-then-t-u : goal.returns-then-t-u
returns-then-t-u c =
    let a = c.args in by_tails a.t a.h a.w a.u a.g a.x c.if-t-u.true

pub returns-then-h-g : goal.returns-then-h-g
returns-then-h-g c =
    let a = c.args in by_heads a.t a.h a.w a.u a.g a.x c.if-t-u.false c.if-h-g.true

pub returns : goal.returns
returns c =
    let a = c.args in by_weights a.t a.h a.w a.u a.g a.x c.if-t-u.false c.if-h-g.false
