use Rattle.matcher.proofs.OrderLaws.{parting-start, parting-next, parting-found, parting-end}
use Rattle.matcher.proofs.next_part.Goals as goal

pub loop-e-init : goal.loop-e-init
loop-e-init c =
    parting-start c.requires c.take_literal.ensures

pub returns-then-b-ge-STRANGE : goal.returns-then-b-ge-STRANGE
returns-then-b-ge-STRANGE c =
    parting-found c.loop-e.invariant c.take_literal.ensures c.best-b.ensures c.if-b-ge-STRANGE.true

pub loop-e-preserved : goal.loop-e-preserved
loop-e-preserved c =
    parting-next c.loop-e.invariant c.loop-e-test.true c.take_literal-in-loop-e.ensures

pub returns : goal.returns
returns c =
    parting-end c.loop-e.invariant c.take_literal.ensures c.loop-e-test.false
