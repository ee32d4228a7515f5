-- `sources::take_header` meets its contract. Assumes nothing.
use Rattle.property.proofs.Basics.{arith, lt-leb, le-leb}
use Rattle.dimacs.specs.Sources.{max_sources, act}
use Rattle.sources.specs.Code.{state_of, step_of}
use Rattle.sources.proofs.take_header.Goals as goal

pub returns-in_default : goal.returns-in_default
returns-in_default c =
    unfold step_of state_of act in record { by_index = λ n xs. rw c.in_default.is; by_index_2 = λ xs r. tt }

pub returns-then-k-gt-MAX_SOURCES : goal.returns-then-k-gt-MAX_SOURCES
returns-then-k-gt-MAX_SOURCES c =
    unfold step_of state_of act in record { by_index = λ n xs. rw (c.in-Start.is, lt-leb _ max_sources c.if-k-gt-MAX_SOURCES.true); by_index_2 = λ xs r. tt }

pub returns : goal.returns
returns c =
    unfold step_of state_of act in record { by_index = λ n xs. rw (c.in-Start.is, le-leb _ max_sources c.if-k-gt-MAX_SOURCES.false); by_index_2 = λ xs r. record { room = r; inside = (c.if-k-gt-MAX_SOURCES.false, omega arith) } }
