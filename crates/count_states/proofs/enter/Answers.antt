use native.Mathlib.Omega.{arith}
use Rattle.count_states.proofs.TableLaws.{found-states, entered-old, entered-new}
use Rattle.count_states.proofs.enter.Goals as goal

pub overflow_add-states-then-is_there : goal.overflow_add-states-then-is_there
overflow_add-states-then-is_there c =
    omega (arith, found-states c.requires c.seek-at.ensures c.is_there.ensures c.if-is_there.true)

pub returns-then-is_there : goal.returns-then-is_there
returns-then-is_there c =
    search entered-old

pub returns : goal.returns
returns c =
    search entered-new
