-- `plain_preview::ask` meets its contract. Assumes nothing.
use Rattle.property.proofs.Basics.{sym, ap, length-take-le, replicate, ℕ}
use Rattle.std.specs.Prelude.{Ok}
use Rattle.graph.specs.Limits.{max_vertices}
use Rattle.graph.specs.Refusal.{verdict_of}
use Rattle.graph.specs.Code.{told, reply_of}
use Rattle.query.specs.Code.{answering}
use Rattle.plain_preview.proofs.Previewing.{answers_as}
use Rattle.plain_preview.proofs.ask.Goals as goal

pub slice_bounds-query-end-2 : goal.slice_bounds-query-end-2
slice_bounds-query-end-2 c =
    sym (length-take-le {A = ℕ} c.args.n (replicate max_vertices 0) c.requires.0)

pub returns-in-Ok : goal.returns-in-Ok
unfolding told reply_of verdict_of
returns-in-Ok c =
    answers_as _ _ _ _ _ _ _ _ c.query-answer.result (Ok tt) c.requires.0 c.requires.1 c.query-answer.ensures (ap (λ r. verdict_of (answering r)) (sym c.in-Ok.is))

pub returns-in-Err : goal.returns-in-Err
unfolding told reply_of verdict_of
returns-in-Err c =
    answers_as _ _ _ _ _ _ _ _ c.query-answer.result _ c.requires.0 c.requires.1 c.query-answer.ensures (ap (λ r. verdict_of (answering r)) (sym c.in-Err.is))
