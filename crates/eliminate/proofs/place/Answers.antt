use native.Mathlib.Omega.{arith}
use Rattle.eliminate.proofs.DigitLaws.{place-start, place_none, place_end, place-odd, place-even, place-small, weight-small}
use Rattle.eliminate.proofs.place.Goals as goal
use Rattle.eliminate.proofs.place.Goals.{then-rest-eq1, else-rest-eq1}

pub loop-v-init : goal.loop-v-init
loop-v-init c =
    search place-start

pub returns-then-rest-eq0 : goal.returns-then-rest-eq0
returns-then-rest-eq0 c =
    search place_none

pub overflow_mul-at : goal.overflow_mul-at
overflow_mul-at c =
    omega (arith, place-small c.loop-v.invariant c.loop-v-test.true c.if-rest-eq1.true)

pub overflow_add-at : goal.overflow_add-at
overflow_add-at c =
    omega (arith, place-small c.loop-v.invariant c.loop-v-test.true c.if-rest-eq1.true)

pub overflow_mul-weight : goal.overflow_mul-weight
overflow_mul-weight c =
    omega (arith, weight-small c.loop-v.invariant c.loop-v-test.true c.if-rest-eq1.true)

pub loop-v-preserved : goal.loop-v-preserved
loop-v-preserved c =
    elim c.if-rest-eq1.branch [
      | then-rest-eq1 w ↦ rw (w.weight-is, w.at-is) (place-odd c.loop-v.invariant c.loop-v-test.true w.if-rest-eq1.true)
      | else-rest-eq1 w ↦ rw (w.weight-is, w.at-is) (place-even c.loop-v.invariant c.loop-v-test.true w.if-rest-eq1.false)
    ]

pub returns : goal.returns
returns c =
    search place_end
