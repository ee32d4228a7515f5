-- `graph::rules::judge_rules` meets its contract. Assumes nothing.
use Rattle.property.proofs.Basics.{arith, sym, ◌∙◌}
use Rattle.graph.proofs.Judging.{rules_none, rules_broken, rules_first, follow_more, follow_broken, follow_none}
use Rattle.graph.proofs.rules.judge_rules.Goals as goal

pub returns-then-count-eq0 : goal.returns-then-count-eq0
returns-then-count-eq0 c =
    rules_none _ _ _ _ c.requires _ c.if-count-eq0.true

pub returns-then-not-is_edge : goal.returns-then-not-is_edge
returns-then-not-is_edge c =
    let e = c.is_edge.ensures in
    rules_broken _ _ _ _ c.requires _ (omega arith) (sym e ∙ c.if-not-is_edge.true)

pub loop-k-init : goal.loop-k-init
loop-k-init c =
    let e = c.is_edge.ensures in
    (rules_first _ _ _ _ c.requires _ (omega arith) (sym e ∙ c.if-not-is_edge.false), omega arith, omega arith)

pub returns-then-not-follows : goal.returns-then-not-follows
returns-then-not-follows c =
    follow_broken _ _ _ _ c.requires c.args.n _ c.loop-k.invariant.0 (omega arith) (sym c.follows.ensures ∙ c.if-not-follows.true)

pub loop-k-preserved : goal.loop-k-preserved
loop-k-preserved c =
    (follow_more _ _ _ _ c.requires c.args.n _ c.loop-k.invariant.0 (omega arith) (sym c.follows.ensures ∙ c.if-not-follows.false), omega arith, omega arith)

pub returns : goal.returns
returns c =
    follow_none _ _ _ _ c.requires c.args.n _ c.loop-k.invariant.0 c.loop-k-test.false
