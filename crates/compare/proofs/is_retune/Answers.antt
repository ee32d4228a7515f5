-- `compare::is_retune` meets its contract: each test that fails says no, which the search finds, and where none does the weights decide. Assumes nothing.
use Rattle.property.proofs.Basics.{arith, ◌≡◌, sym, ap, ◌∙◌, not, cond, ◌+◌, eqb, ne_eqb}
use Rattle.compare.specs.Code.{before, is_retune}
use Rattle.compare.proofs.Joining.{retune_test}
use Rattle.compare.proofs.is_retune.Goals as goal

pub returns-else-weight-eq0 : goal.returns-else-weight-eq0
returns-else-weight-eq0 c =
    let a = c.args in
    let known : is_retune a.list.now a.size a.k ≡ cond (eqb (before a.list.now a.k).weight 0) (not (eqb (before a.list.now (a.k + 1)).weight 0)) (eqb (before a.list.now (a.k + 1)).weight 0) =
    retune_test a.list.now a.size a.k c.if-k-size.false (sym c.is_pair.ensures ∙ c.if-not-is_pair.false) (λ l. grind arith) (λ l. grind arith) in
    sym (known ∙ rw (sym (ap (λ w. eqb w 0) c.weight.ensures) ∙ ne_eqb c.weight.result 0 c.if-weight-eq0.false) (ap (λ w. eqb w 0) (sym c.weight-else-weight-eq0.ensures)))
