-- `sources::take_line` meets its contract. Assumes nothing.
use Rattle.property.proofs.Basics.{true, false}
use Rattle.dimacs.specs.Sources.{item_in, complete}
use Rattle.sources.specs.Code.{step_of}
use Rattle.scanner.proofs.Steps.{step_comment, step_item}
use Rattle.sources.proofs.Items.{item_empty}
use Rattle.sources.proofs.Steps.{said_capped}
use Rattle.sources.proofs.take_line.Goals as goal

pub returns-then-is_comment : goal.returns-then-is_comment
returns-then-is_comment c =
    unfold step_of in record { result_after = step_comment item_in _ complete _ _ true c.holds.ensures c.is_comment.ensures c.if-holds.true c.if-is_comment.true; keeps = c.requires.1 }

pub returns-then-holds : goal.returns-then-holds
returns-then-holds c =
    unfold step_of in record { result_after = step_comment item_in _ complete _ _ false c.holds.ensures c.is_comment.ensures c.if-holds.true c.if-is_comment.false; keeps = tt }

pub returns : goal.returns
returns c =
    record { result_after = step_item item_in _ complete _ _ item_empty c.holds.ensures c.if-holds.false c.take_item.ensures.result_after c.read_item.ensures (said_capped _ _ _ c.requires.0); keeps = c.take_item.ensures.keeps }
