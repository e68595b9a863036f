use mathlib.Core.Path.{sym}
use native.Mathlib.Nat.{pow-zero}
use native.Mathlib.Omega.{arith}
use borrow.Author.Rules.{rules}
use Rattle.reduce.proofs.CallLaws.{power_small, power-many, power-next, power-all}
use Rattle.reduce.proofs.count_valuations.Goals as goal

pub loop-j-init : goal.loop-j-init
loop-j-init c =
    (search rules, sym (pow-zero _), search rules)

pub overflow_mul-p : goal.overflow_mul-p
overflow_mul-p c =
    omega (arith, power_small c.requires c.loop-j.invariant.1 c.loop-j.invariant.2 c.loop-j-test.true)

pub returns-then-p-gt-RUNS : goal.returns-then-p-gt-RUNS
returns-then-p-gt-RUNS c =
    power-many (c.requires) c.loop-j.invariant.1 c.loop-j.invariant.2 c.loop-j-test.true c.if-p-gt-RUNS.true

pub loop-j-preserved : goal.loop-j-preserved
loop-j-preserved c =
    (search rules, power-next (c.requires) c.loop-j.invariant.1 c.loop-j.invariant.2 c.loop-j-test.true, c.if-p-gt-RUNS.false)

pub returns : goal.returns
returns c =
    power-all c.loop-j.invariant.1 c.loop-j.invariant.2 c.loop-j.invariant.0 c.loop-j-test.false
