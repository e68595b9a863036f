use native.Mathlib.Omega.{arith}
use Rattle.count_states.proofs.PowerLaws.{declared-power, next_place}
use Rattle.count_states.proofs.RowLaws.{lay-start, lay-most, lay-room, lay-on, lay-end}
use Rattle.count_states.proofs.write_ground.Goals as goal

pub loop-p-init : goal.loop-p-init
loop-p-init c =
    search lay-start

pub bounds-arities-p : goal.bounds-arities-p
bounds-arities-p c =
    search next_place

pub write_facts-requires : goal.write_facts-requires
write_facts-requires c =
    search lay-room

pub overflow_add-at : goal.overflow_add-at
overflow_add-at c =
    omega (arith, c.requires.fact_words_in_bounds, lay-most c.requires.declared c.requires.fact_words_in_bounds c.loop-p.invariant c.loop-p-test.true c.power-m.ensures)

pub power-m-requires : goal.power-m-requires
power-m-requires c =
    search declared-power

pub loop-p-preserved : goal.loop-p-preserved
loop-p-preserved c =
    search lay-on

pub returns : goal.returns
returns c =
    search lay-end
