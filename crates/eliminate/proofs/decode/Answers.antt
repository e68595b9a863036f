use Rattle.eliminate.proofs.DigitLaws.{decode-start, decode-none, decode-end, decode-odd, decode-even}
use Rattle.eliminate.proofs.decode.Goals as goal
use Rattle.eliminate.proofs.decode.Goals.{then-rest-eq1, else-rest-eq1}

pub loop-v-init : goal.loop-v-init
loop-v-init c =
    search decode-start

pub returns-then-rest-eq0 : goal.returns-then-rest-eq0
returns-then-rest-eq0 c =
    search decode-none

pub loop-v-preserved : goal.loop-v-preserved
loop-v-preserved c =
    elim c.if-rest-eq1.branch [
      | then-rest-eq1 w ↦ rw (w.env-is, w.code-is) (decode-odd c.loop-v.invariant c.loop-v-test.true w.if-rest-eq1.true)
      | else-rest-eq1 w ↦ rw (w.env-is, w.code-is) (decode-even c.loop-v.invariant c.loop-v-test.true w.if-rest-eq1.false)
    ]

pub returns : goal.returns
returns c =
    search decode-end
