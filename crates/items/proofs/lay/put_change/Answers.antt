-- `items::lay::put_change` meets its contract. Assumes nothing.
use Rattle.property.proofs.Basics.{arith, length-set}
use Rattle.items.proofs.lay.put_change.Goals as goal

pub bounds-lists-i-2 : goal.bounds-lists-i-2
bounds-lists-i-2 c =
    simp length-set (omega arith)

pub bounds-lists-i-3 : goal.bounds-lists-i-3
bounds-lists-i-3 c =
    simp length-set (omega arith)

pub bounds-lists-i-4 : goal.bounds-lists-i-4
bounds-lists-i-4 c =
    simp length-set (omega arith)

pub bounds-lists-i-5 : goal.bounds-lists-i-5
bounds-lists-i-5 c =
    simp length-set (omega arith)
