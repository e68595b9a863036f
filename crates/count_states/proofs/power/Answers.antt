use native.Mathlib.Omega.{arith}
use Rattle.count_states.proofs.PowerLaws.{power-start, power-room, power-on, power-end}
use Rattle.count_states.proofs.power.Goals as goal

pub loop-i-init : goal.loop-i-init
loop-i-init c =
    search power-start

pub overflow_mul-p : goal.overflow_mul-p
overflow_mul-p c =
    omega (arith, power-room c.requires c.loop-i.invariant c.loop-i-test.true)

pub loop-i-preserved : goal.loop-i-preserved
loop-i-preserved c =
    search power-on

pub returns : goal.returns
returns c =
    search power-end
