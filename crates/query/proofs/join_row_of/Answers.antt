-- `query::join_row_of` meets its contract. Assumes nothing.
use Rattle.property.proofs.Basics.{arith, sym, ap, ◌∙◌, ⊎_elim, ℕ, ◌+◌, get_or, get_or-set_other}
use Rattle.property.specs.Property.{property}
use Rattle.graph.proofs.Lists.{at_set}
use Rattle.run.specs.Start.{finer}
use Rattle.query.proofs.join_row_of.Goals as goal

pub loop-t-preserved : goal.loop-t-preserved
loop-t-preserved c =
    let a = c.args in
    let P = property a.p in
    let v = c.finer.ensures ∙ ap (λ (x : ℕ). finer P x (get_or c.loop-t.out c.loop-t.t 0)) c.join.ensures ∙ ap (finer P (P.join a.b (get_or a.forward.now (a.at + c.loop-t.t) 0))) (c.loop-t.invariant.1 c.loop-t.t (omega arith)) in (
      (λ j b.
          ⊎_elim
          (λ e. e.1 ∙ v ∙ ap (λ (x : ℕ). finer P (P.join a.b (get_or a.forward.now (a.at + x) 0)) (get_or a.out.now x 0)) (sym e.0))
          (λ e. e.1 ∙ c.loop-t.invariant.0 j (omega (arith, e.0)))
          (at_set c.loop-t.out c.loop-t.t c.finer.result j 0 (omega arith))),
      (λ j b. get_or-set_other c.loop-t.out c.loop-t.t j c.finer.result 0 (λ q. omega arith) ∙ c.loop-t.invariant.1 j (omega arith)),
    )
