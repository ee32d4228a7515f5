-- `routing::write::mark` meets its contract. Assumes nothing.
use Rattle.property.proofs.Basics.{◌≡◌, Bool, cond, not, ◌&&◌, ◌||◌, ℕ, leb, eqb}
use Rattle.routing.proofs.write.mark.Goals as goal

-- a test of the value after the edge, as one of the edge
marked : (p v x y : ℕ) (b : Bool) → (leb p 2 || (leb p 4 && not (eqb x v))) ≡ b → x ≡ y → cond {A = ℕ} b 1 0 ≡ cond (leb p 2 || (leb p 4 && not (eqb y v))) 1 0
marked p v x y b e q = rw (← e, q)

pub returns-then-p-x : goal.returns-then-p-x
returns-then-p-x c e q =
    let a = c.args in marked a.p a.v _ _ _ c.if-p-x.true q

pub returns-else-p-x : goal.returns-else-p-x
returns-else-p-x c e q =
    let a = c.args in marked a.p a.v _ _ _ c.if-p-x.false q
