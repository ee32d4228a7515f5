-- `search::search_best` meets its contract: the eligible edges are searched, or every edge. Assumes nothing.
use Rattle.property.proofs.Basics.{length, arith, eqb-false}
use Rattle.graph.proofs.Tests.{neither}
use Rattle.search.proofs.Steps.{searched_best, searched_all, told_of}
use Rattle.search.proofs.search_best.Goals as goal

pub returns-then-p : goal.returns-then-p
returns-then-p c =
    let g = c.args in
    λ es o. told_of g.t _ _ _ _ (searched_all (length g.via.now) g.s g.t es g.row.now g.p c.if-p.true) (c.search_by.ensures es o)

pub search_by-requires-2 : goal.search_by-requires-2
search_by-requires-2 c =
    let p = c.requires in
    (p.0, eqb-false _ _ (neither _ _ c.if-p.false).0, p.1, p.2, p.3, omega (arith, c.values_from.ensures.words_len), p.5)

pub returns : goal.returns
returns c =
    let g = c.args in
    λ es o.
    told_of g.t _ _ _ _
    (searched_best (length g.via.now) g.s g.t es c.values_from.new.words g.p c.if-p.false (omega (arith, c.values_from.ensures.words_len, c.requires.2)) (c.values_from.ensures.words_after es o))
    (c.search_by-2.ensures es o)
