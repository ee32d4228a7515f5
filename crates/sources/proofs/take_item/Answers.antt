-- `sources::take_item` meets its contract, kind by kind. Assumes nothing.
use Rattle.property.proofs.Basics.{bind}
use Rattle.sources.specs.Code.{step_of}
use Rattle.sources.proofs.take_item.Goals as goal

pub returns-in_err-k : goal.returns-in_err-k
unfolding bind step_of
returns-in_err-k c =
    rw c.from_residual.ensures (record { result_after = rw c.in_err-k.was; keeps = tt })

pub returns-in-Header : goal.returns-in-Header
unfolding bind
returns-in-Header c =
    record { result_after = rw (c.in_ok-k.was, c.in-Header.is) (c.take_header.ensures.by_index _ _); keeps = c.take_header.ensures.by_index_2 _ c.requires.room }

pub returns-in-Source : goal.returns-in-Source
unfolding bind
returns-in-Source c =
    record { result_after = rw (c.in_ok-k.was, c.in-Source.is) c.take_source.ensures.result_after; keeps = c.take_source.ensures.keeps }
