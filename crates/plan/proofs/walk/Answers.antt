use Rattle.plan.proofs.StepLaws.{word-full, word-to}
use Rattle.plan.proofs.VisitLaws.{walk-ready, walk-new, walk-out}
use Rattle.plan.proofs.walk.Goals as goal

pub below-r-requires-clause-ready : goal.below-r-requires-clause-ready
below-r-requires-clause-ready c = walk-ready c.requires.leading c.requires.index c.key-k.ensures

pub below-r-requires-clause-count_value : goal.below-r-requires-clause-count_value
below-r-requires-clause-count_value c = walk-new _ _

pub returns-then-r-eq-FULL : goal.returns-then-r-eq-FULL
returns-then-r-eq-FULL c = walk-out _ c.requires.leading c.key-k.ensures (word-full _ c.if-r-eq-FULL.true) c.below-r.ensures

pub returns-else-r-eq-FULL : goal.returns-else-r-eq-FULL
returns-else-r-eq-FULL c = walk-out _ c.requires.leading c.key-k.ensures (word-to _ c.if-r-eq-FULL.false) c.below-r.ensures
