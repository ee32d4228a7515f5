-- `run::relax` meets its contract. Assumes nothing.
use Rattle.property.proofs.Basics.{sym, ◌∙◌, arith}
use Rattle.property.specs.Property.{property}
use Rattle.run.proofs.States.{ran_none, ran_store, relax_stores, relax_keeps}
use Rattle.run.proofs.relax.Goals as goal

pub returns-then-better : goal.returns-then-better
returns-then-better c =
    let a = c.args in
    let f = c.requires.1.words in
    let w = c.insert.ensures in record {
      result_after = λ e p q.
          relax_stores (property a.p) a.n a.h a.a a.words.now a.waiting.now a.t e (omega arith) p q c.insert.new.ws c.requires.0
          (sym c.better.ensures ∙ c.if-better.true) w;
      ran = ran_store a.n a.h a.a a.words.now a.waiting.now c.insert.new.ws a.t c.requires.1 c.requires.0 w;
    }

pub returns-else-better : goal.returns-else-better
returns-else-better c =
    let a = c.args in
    let f = c.requires.1.words in record {
      result_after = λ e p q.
          relax_keeps (property a.p) a.n a.h a.a a.words.now a.waiting.now a.t e (omega arith) p q
          (sym c.better.ensures ∙ c.if-better.false);
      ran = ran_none c.requires.1 a.t 0 0 1;
    }
