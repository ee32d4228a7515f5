-- `run::take` meets its contract. Assumes nothing.
use Rattle.property.proofs.Basics.{sym, ◌∙◌, arith}
use Rattle.property.specs.Property.{property}
use Rattle.graph.specs.Limits.{max_edges}
use Rattle.run.proofs.States.{ran_none, take_waiting, take_idle, ran_taken}
use Rattle.run.proofs.take.Goals as goal

pub handle-requires : goal.handle-requires
handle-requires c =
    let f = c.requires.ready in
    (c.args.n, c.requires.u_lt_n, record { fit = f.fit; sized = f.sized; low = record { taken = omega arith; rounds = omega arith; stores = omega arith } })

pub returns-then-contains : goal.returns-then-contains
returns-then-contains c =
    let g = c.args in record {
      result_after = λ es o.
          take_waiting (property g.p) es g.n g.u g.words.now g.waiting.now g.tally c.requires.u_lt_n _
          (sym c.contains.ensures ∙ c.if-contains.true) (c.handle.ensures.by_index g.n c.requires.ready.sized.words es o);
      ran = ran_taken g.tally (c.handle.ensures.by_index_2 g.n c.requires.ready.sized.words);
    }

pub returns-else-contains : goal.returns-else-contains
returns-else-contains c =
    let g = c.args in record {
      result_after = λ es o.
          take_idle (property g.p) es g.n g.u g.words.now g.waiting.now g.tally c.requires.u_lt_n
          (sym c.contains.ensures ∙ c.if-contains.false);
      ran = ran_none c.requires.ready.sized g.tally 1 0 max_edges;
    }
