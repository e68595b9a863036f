use Rattle.plan.proofs.StepLaws.{ways-first, ways-second, ways-both}
use Rattle.plan.proofs.successors.Goals as goal

pub returns-then-before : goal.returns-then-before
returns-then-before c =
    ways-first _ _ _ _ c.before-2.ensures c.if-before.true

pub returns-then-before-2 : goal.returns-then-before-2
returns-then-before-2 c =
    ways-second _ _ _ _ c.before-3.ensures c.if-before-2.true

pub returns : goal.returns
returns c =
    ways-both _ _ _ _ c.before-2.ensures c.if-before.false
    c.before-3.ensures c.if-before-2.false
