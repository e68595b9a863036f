use native.Mathlib.Omega.{arith}
use mathlib.Core.Path.{refl}
use borrow.Author.Rules.{rules}
use Rattle.reduce.proofs.TableLaws.{divide-start, power-some, divide-next, divide-end}
use Rattle.reduce.proofs.objects_into.Goals as goal

pub loop-j-init : goal.loop-j-init
loop-j-init c =
    (refl, search divide-start)

pub nonzero_div-p : goal.nonzero_div-p
nonzero_div-p c =
    omega (arith, c.loop-j-test.true)

pub nonzero_div-out : goal.nonzero_div-out
nonzero_div-out c =
    omega (arith, power-some c.loop-j.invariant.1 c.loop-j-test.true)

pub nonzero_rem-x : goal.nonzero_rem-x
nonzero_rem-x c =
    omega (arith, power-some c.loop-j.invariant.1 c.loop-j-test.true)

pub loop-j-preserved : goal.loop-j-preserved
loop-j-preserved c =
    (search rules, divide-next c.loop-j.invariant.1 c.loop-j-test.true (omega (arith, c.loop-j-test.true, c.requires.places, c.loop-j.invariant.0)))

pub returns : goal.returns
returns c =
    search divide-end
