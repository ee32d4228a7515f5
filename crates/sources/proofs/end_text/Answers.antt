-- `sources::end_text` meets its contract. Assumes nothing.
use Rattle.property.proofs.Basics.{refl, add-one, arith, eq-eqb, ne_eqb}
use Rattle.dimacs.specs.Read.{ended}
use Rattle.dimacs.specs.Sources.{complete}
use Rattle.sources.specs.Code.{state_of, read_of}
use Rattle.sources.proofs.Steps.{held_inside, end_within}
use Rattle.sources.proofs.end_text.Goals as goal

pub returns-in_default : goal.returns-in_default
returns-in_default c =
    unfold read_of state_of ended complete in record { by_index = λ n xs h. rw (c.in_default.is, add-one); by_index_2 = λ xs h. refl }

pub returns-then-held-total : goal.returns-then-held-total
unfolding read_of
returns-then-held-total c =
    record { by_index = λ n xs h. rw (end_within c.in-Within.is h, eq-eqb _ _ c.if-held-total.true, c.if-held-total.true); by_index_2 = λ xs h. (let i = held_inside _ h c.in-Within.is in (omega arith, h.room)) }

pub returns : goal.returns
returns c =
    unfold read_of in record { by_index = λ n xs h. rw (end_within c.in-Within.is h, ne_eqb _ _ c.if-held-total.false); by_index_2 = λ xs h. refl }
