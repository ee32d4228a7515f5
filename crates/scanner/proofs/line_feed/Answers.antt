-- `scanner::line_feed` meets its contract: no byte passed is a line feed. Assumes nothing.
use Rattle.property.proofs.Basics.{arith, sym}
use Rattle.dimacs.proofs.Positions.{feed_start, feed_more, feed_ends, feed_open}
use Rattle.scanner.proofs.line_feed.Goals as goal

pub loop-i-init : goal.loop-i-init
loop-i-init c =
    (feed_start c.args.text.now c.args.at, omega arith)

pub returns-then-text-i-eq10 : goal.returns-then-text-i-eq10
returns-then-text-i-eq10 c =
    let a = c.args in
    (sym (feed_ends a.text.now a.at c.loop-i.i c.loop-i.invariant.1 (omega arith) c.if-text-i-eq10.true c.loop-i.invariant.0), (omega arith, omega arith))

pub loop-i-preserved : goal.loop-i-preserved
loop-i-preserved c =
    let a = c.args in (feed_more a.text.now a.at c.loop-i.i c.loop-i.invariant.1 (omega arith) c.if-text-i-eq10.false c.loop-i.invariant.0, omega arith)

pub returns : goal.returns
returns c =
    let a = c.args in (sym (feed_open a.text.now a.at c.loop-i.i c.loop-i.invariant.1 (omega arith) c.loop-i.invariant.0), tt)
