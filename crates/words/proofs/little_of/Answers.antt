use Prim.Native.Nat.{◌-◌}
use native.Mathlib.Omega.{arith}
use borrow.Author.Rules.{rules}
use Rattle.words.proofs.KeyCode.{part-fits, part-start, part-more}
use Rattle.words.proofs.little_of.Goals as goal

pub loop-i-init : goal.loop-i-init
loop-i-init c =
    search part-start

pub overflow_mul-v : goal.overflow_mul-v
overflow_mul-v c =
    omega (arith, part-fits c.loop-i.invariant c.loop-i-test.true)

pub overflow_add-v : goal.overflow_add-v
overflow_add-v c =
    omega (arith, part-fits c.loop-i.invariant c.loop-i-test.true, c.type_inv.s (c.loop-i.i - 1))

pub loop-i-preserved : goal.loop-i-preserved
loop-i-preserved c =
    let h = c.type_inv.s (c.loop-i.i - 1) in part-more c.loop-i.invariant c.loop-i-test.true c.from.ensures (search rules)
