use native.Mathlib.Omega.{arith}
use Rattle.matcher.proofs.FindLaws.{packing-start, packing-small, packing-next, packing-end}
use Rattle.matcher.proofs.image.Goals as goal

pub loop-k-init : goal.loop-k-init
loop-k-init c =
    search packing-start

pub overflow_mul-n : goal.overflow_mul-n
overflow_mul-n c =
    omega (arith, packing-small c.requires c.loop-k.invariant c.loop-k-test.true c.place-t.ensures)

pub overflow_add-n : goal.overflow_add-n
overflow_add-n c =
    omega (arith, packing-small c.requires c.loop-k.invariant c.loop-k-test.true c.place-t.ensures)

pub loop-k-preserved : goal.loop-k-preserved
loop-k-preserved c =
    search packing-next

pub returns : goal.returns
returns c =
    packing-end c.requires c.loop-k.invariant c.loop-k-test.false
