-- `query::run_query` meets its contract. Assumes nothing.
use Rattle.property.proofs.Basics.{arith, ◌≡◌, sym, ap, ◌∙◌, length, take, take_at, length-take-le}
use Rattle.property.specs.Property.{property}
use Rattle.query.specs.Code.{run_from}
use Rattle.graph.proofs.Copies.{paste_over}
use Rattle.query.proofs.AskingRun.{run_ended}
use Rattle.query.proofs.run_query.Goals as goal

pub start_at-requires : goal.start_at-requires
start_at-requires c =
    (c.requires.fit_in.2, c.requires.fit_in.3)

pub slice_bounds-run_counted-end-2 : goal.slice_bounds-run_counted-end-2
slice_bounds-run_counted-end-2 c =
    let room : length (take c.args.n c.copy.new.dst) ≡ c.args.n = length-take-le c.args.n c.copy.new.dst (omega (arith, c.copy.auto.dst, c.requires.start_len.1)) in
    sym (room)

pub run_counted-requires : goal.run_counted-requires
run_counted-requires c =
    let room : length (take c.args.n c.copy.new.dst) ≡ c.args.n = length-take-le c.args.n c.copy.new.dst (omega (arith, c.copy.auto.dst, c.requires.start_len.1)) in
    (c.requires.fit_in.0, record { words = room; waiting = c.start_at.ensures.marks }, c.requires.fit_in.1)

pub returns : goal.returns
returns c es o =
    let started : take c.args.n c.copy.new.dst ≡ c.args.start.now = ap (take c.args.n) (c.copy.ensures ∙ paste_over c.args.settled.now _ c.args.n c.requires.start_len.0) ∙ take_at _ _ c.args.n c.requires.start_len.0 in
    run_ended c.args.n (run_from (property c.args.p) es c.args.n c.args.source c.args.schedule.now c.args.start.now) c.args.start.now c.args.settled.now _ _ _ _
    (rw (started, c.start_at.ensures.waiting_after) at (c.run_counted.ensures.0 es o)) c.requires.start_len.0 c.run_counted.ensures.1.sized.words c.copy.ensures
