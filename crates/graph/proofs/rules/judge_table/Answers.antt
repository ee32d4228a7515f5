-- `graph::rules::judge_table` meets its contract. Assumes nothing.
use Rattle.property.proofs.Basics.{arith}
use Rattle.graph.specs.Code.{told}
use Rattle.graph.proofs.Judging.{table_judged}
use Rattle.graph.proofs.Records.{room_less}
use Rattle.graph.proofs.rules.judge_table.Goals as goal

pub are_sound-requires : goal.are_sound-requires
are_sound-requires c =
    (omega arith, room_less c.if-records-le-MAX_EDGES.true c.requires)

pub returns-then-are_sound : goal.returns-then-are_sound
unfolding told
returns-then-are_sound c =
    table_judged _ _ _ _ _ c.if-records-le-MAX_EDGES.true (c.are_sound.ensures c.if-are_sound.true)
