use Rattle.matcher.proofs.MarkLaws.{unplacing-end}
use Rattle.matcher.proofs.unplace.Goals as goal

pub returns-clause-unplaced : goal.returns-clause-unplaced
returns-clause-unplaced c =
    unplacing-end c.requires c.loop-v.invariant c.loop-v-test.false
