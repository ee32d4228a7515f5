-- `sources::read_in` meets its contract. Assumes nothing.
use Rattle.property.proofs.Basics.{arith, ◌≤◌, ◌∙◌, length, length-take-le, lt-ltb, le-ltb}
use Rattle.graph.specs.Refusal.{◌▷◌, refuse_if, replied, choose}
use Rattle.graph.specs.Code.{told, reply_of}
use Rattle.graph.proofs.Judging.{size_accept, passed_on, fine_accept}
use Rattle.graph.proofs.Copies.{paste_front}
use Rattle.dimacs.specs.Call.{judged, sources_read, sources_call}
use Rattle.dimacs.specs.Sources.{max_sources}
use Rattle.sources.specs.Code.{read_of}
use Rattle.sources.proofs.read_in.Goals as goal

pub returns-in_err-judge_size : goal.returns-in_err-judge_size
unfolding told sources_call reply_of ◌▷◌ replied choose
returns-in_err-judge_size c =
    rw (passed_on _ c.from_residual.ensures.1, ← c.in_err-judge_size.ensures)

pub returns-then-sources-lt-MAX_SOURCES : goal.returns-then-sources-lt-MAX_SOURCES
unfolding told sources_call reply_of ◌▷◌ refuse_if replied choose
returns-then-sources-lt-MAX_SOURCES c =
    rw (← c.in_ok-judge_size.ensures, lt-ltb (length c.args.sources.now) max_sources (omega arith))

pub read_text-requires : goal.read_text-requires
read_text-requires c =
    ((size_accept _ (fine_accept _ c.in_ok-judge_size.ensures)).1, c.requires)

pub returns-in_err-count : goal.returns-in_err-count
unfolding told read_of sources_call reply_of ◌▷◌ refuse_if replied choose judged
returns-in_err-count c =
    let e = c.in_err-count.ensures in
    rw (passed_on _ c.from_residual-in_err-count.ensures.1, ← c.in_ok-judge_size.ensures, le-ltb _ max_sources c.if-sources-lt-MAX_SOURCES.false, ← e.result_after, e.whole)

pub copy-requires : goal.copy-requires
copy-requires c =
    let w = c.in_ok-count.ensures.whole in
    let l = c.if-sources-lt-MAX_SOURCES.false in
    (omega arith, omega arith)

pub returns : goal.returns
unfolding told read_of sources_call reply_of ◌▷◌ refuse_if replied choose judged sources_read
returns c =
    let w = c.in_ok-count.ensures.whole in
    let fits : c.in_ok-count.count ≤ length c.read_text.new.list = omega arith in
    rw (← c.in_ok-judge_size.ensures, le-ltb _ max_sources c.if-sources-lt-MAX_SOURCES.false, ← c.in_ok-count.ensures.result_after, c.copy.ensures ∙ paste_front _ _ _ fits, length-take-le _ _ fits)
