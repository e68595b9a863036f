use Rattle.eliminate.proofs.CountLaws.{shrink-start, shrink-none, shrink-end, shrink-odd, shrink-even}
use Rattle.eliminate.proofs.shrink.Goals as goal
use Rattle.eliminate.proofs.shrink.Goals.{then-rest-eq1, else-rest-eq1}

pub loop-v-init : goal.loop-v-init
loop-v-init c =
    search shrink-start

pub returns-then-rest-eq0 : goal.returns-then-rest-eq0
returns-then-rest-eq0 c =
    search shrink-none

pub loop-v-preserved : goal.loop-v-preserved
loop-v-preserved c =
    elim c.if-rest-eq1.branch [
      | then-rest-eq1 w ↦ rw (w.size-is, w.sum-is) (shrink-odd c.loop-v.invariant c.loop-v-test.true w.if-rest-eq1.true)
      | else-rest-eq1 w ↦ rw (w.size-is, w.sum-is) (shrink-even c.loop-v.invariant c.loop-v-test.true w.if-rest-eq1.false)
    ]

pub returns : goal.returns
returns c =
    search shrink-end
