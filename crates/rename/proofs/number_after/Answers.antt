use Rattle.rename.proofs.MapSteps.{after-low, after_last, after-unused, after-used, number-below}
use native.Mathlib.Omega.{arith}
use Rattle.rename.proofs.number_after.Goals as goal

pub returns-then-t-lt-FIRST_VARIABLE : goal.returns-then-t-lt-FIRST_VARIABLE
returns-then-t-lt-FIRST_VARIABLE c =
    search after-low

pub returns-then-t-eq-FIRST_MINIMUM : goal.returns-then-t-eq-FIRST_MINIMUM
returns-then-t-eq-FIRST_MINIMUM c =
    search after_last

pub returns-then-used-t-eq0 : goal.returns-then-used-t-eq0
returns-then-used-t-eq0 c =
    search after-unused

pub overflow_add-result : goal.overflow_add-result
overflow_add-result c =
    omega (arith, number-below c.requires)

pub returns : goal.returns
returns c =
    search after-used
