-- `compare::differences` meets its contract: what either table lacks is listed, and then each retune is joined. Assumes nothing.
use Rattle.property.proofs.Basics.{arith}
use Rattle.compare.proofs.differences.Goals as goal

pub returns : goal.returns
returns c =
    let p = c.join_retunes.ensures in
    let q = c.list_changes-size.ensures in
    let (n, t) = c.requires.0 in record { upper_bound = (omega (arith, p.list_len_unchanged.0, q.result_in_bounds.0), λ n t. p.list_len_unchanged.1 n (q.result_in_bounds.2 n t)); differences = p.by_index n _ _ t.old.2 t.new.2 q.unjoined }
