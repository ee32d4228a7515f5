-- `graph::rules::judge_table_plainly` meets its contract. Assumes nothing.
use Rattle.graph.proofs.Judging.{table_judged, table_crowded}
use Rattle.graph.proofs.rules.judge_table_plainly.Goals as goal

pub returns-then-records-gt-MAX_EDGES : goal.returns-then-records-gt-MAX_EDGES
returns-then-records-gt-MAX_EDGES c =
    table_crowded _ _ _ _ _ c.if-records-gt-MAX_EDGES.true

pub returns : goal.returns
returns c =
    table_judged _ _ _ _ _ c.if-records-gt-MAX_EDGES.false c.judge_rules.ensures
