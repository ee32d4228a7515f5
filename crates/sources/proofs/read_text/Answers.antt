-- `sources::read_text` meets its contract: what is left of the file, from the state so far, comes to the same answer. Assumes nothing.
use Rattle.property.proofs.Basics.{arith, refl, ◌∙◌}
use Rattle.dimacs.specs.Read.{read}
use Rattle.dimacs.specs.Sources as src
use Rattle.sources.specs.Code.{state_of, step_of, read_of}
use Rattle.scanner.proofs.Steps.{left_open, left_stop, left_next, left_end}
use Rattle.sources.proofs.read_text.Goals as goal

pub loop-at-init : goal.loop-at-init
loop-at-init c =
    unfold src.read_sources read state_of in (record { comes = refl; inside = omega arith; counted = omega arith }, record { room = c.requires.1; inside = tt })

pub returns-in_default : goal.returns-in_default
returns-in_default c =
    unfold read_of in record { result_after = left_open c.loop-at.invariant.0 c.line_feed.ensures c.loop-at-test.true c.in_default.is; whole = refl }

pub slice_bounds-take_line-count : goal.slice_bounds-take_line-count
slice_bounds-take_line-count c =
    c.in-Some.ensures.1.0

pub slice_bounds-take_line-start : goal.slice_bounds-take_line-start
slice_bounds-take_line-start c =
    c.in-Some.ensures.1.0

pub slice_bounds-take_line-end : goal.slice_bounds-take_line-end
slice_bounds-take_line-end c =
    omega (arith, c.in-Some.ensures.1)

pub take_line-requires : goal.take_line-requires
take_line-requires c =
    (c.requires.0, c.loop-at.invariant.1)

pub overflow_add-result-in_default-take_line : goal.overflow_add-result-in_default-take_line
overflow_add-result-in_default-take_line c =
    omega (arith, c.loop-at.invariant.0.counted, c.loop-at.invariant.0.inside, c.well_formed)

pub returns-in_default-take_line : goal.returns-in_default-take_line
unfolding read_of step_of
returns-in_default-take_line c =
    record { result_after = left_stop c.loop-at.invariant.0 c.line_feed.ensures c.in-Some.is (step_of _) c.in_default-take_line.is c.take_line.ensures.result_after refl; whole = refl }

pub overflow_add-at : goal.overflow_add-at
overflow_add-at c =
    omega (arith, c.in-Some.ensures.1)

pub overflow_add-k : goal.overflow_add-k
overflow_add-k c =
    omega (arith, c.loop-at.invariant.0.counted, c.loop-at.invariant.0.inside, c.well_formed)

pub loop-at-smaller : goal.loop-at-smaller
loop-at-smaller c =
    omega (arith, c.in-Some.ensures.1, c.loop-at-test.true)

pub loop-at-preserved : goal.loop-at-preserved
unfolding step_of
loop-at-preserved c =
    let i = c.loop-at.invariant in
    let q = c.in-Some-take_line.is in (
      left_next i.0 c.line_feed.ensures c.in-Some.is (step_of _) q c.take_line.ensures.result_after _ refl,
      rw q at c.take_line.ensures.keeps,
    )

pub end_text-requires : goal.end_text-requires
end_text-requires c =
    omega (arith, c.loop-at.invariant.0.counted, c.loop-at.invariant.0.inside, c.well_formed)

pub returns : goal.returns
returns c =
    let i = c.loop-at.invariant in record { result_after = c.end_text.ensures.by_index _ _ i.1 ∙ left_end i.0 c.loop-at-test.false; whole = c.end_text.ensures.by_index_2 _ i.1 }
