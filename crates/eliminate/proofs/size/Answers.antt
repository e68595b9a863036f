use Rattle.eliminate.proofs.SetLaws.{size-start, size_none, size-end, size-large, size-over, size-odd, size-even}
use Rattle.eliminate.proofs.size.Goals as goal
use Rattle.eliminate.proofs.size.Goals.{then-rest-eq1+else-n-gt-ENTRIES+else-size-gt-ENTRIES, else-rest-eq1}

pub loop-v-init : goal.loop-v-init
loop-v-init c =
    search size-start

pub returns-then-rest-eq0 : goal.returns-then-rest-eq0
returns-then-rest-eq0 c =
    search size_none

pub returns-then-n-gt-ENTRIES : goal.returns-then-n-gt-ENTRIES
returns-then-n-gt-ENTRIES c =
    search size-large

pub returns-then-size-gt-ENTRIES : goal.returns-then-size-gt-ENTRIES
returns-then-size-gt-ENTRIES c =
    search size-over

pub loop-v-preserved : goal.loop-v-preserved
loop-v-preserved c =
    elim c.if-rest-eq1.branch [
      | then-rest-eq1+else-n-gt-ENTRIES+else-size-gt-ENTRIES w ↦ rw w.size-is (size-odd c.loop-v.invariant c.loop-v-test.true w.if-rest-eq1.true w.if-size-gt-ENTRIES.false)
      | else-rest-eq1 w ↦ rw w.size-is (size-even c.loop-v.invariant c.loop-v-test.true w.if-rest-eq1.false)
    ]

pub returns : goal.returns
returns c =
    search size-end
