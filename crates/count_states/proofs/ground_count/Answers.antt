use native.Mathlib.Omega.{arith}
use Rattle.count_states.proofs.PowerLaws.{ground-start, declared-power, next_place, ground-room, ground-on, ground-end}
use Rattle.count_states.proofs.ground_count.Goals as goal

pub loop-p-init : goal.loop-p-init
loop-p-init c =
    search ground-start

pub bounds-arities-p : goal.bounds-arities-p
bounds-arities-p c =
    search next_place

pub power-g-requires : goal.power-g-requires
power-g-requires c =
    search declared-power

pub overflow_add-g : goal.overflow_add-g
overflow_add-g c =
    omega (arith, ground-room c.requires c.loop-p-test.true c.loop-p.invariant c.power-g.ensures)

pub loop-p-preserved : goal.loop-p-preserved
loop-p-preserved c =
    search ground-on

pub returns : goal.returns
returns c =
    search ground-end
