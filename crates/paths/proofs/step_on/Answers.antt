use native.Mathlib.Omega.{arith}
use Rattle.paths.proofs.RouteLaws.{step_room, step_label, step-high, step-low}
use Rattle.paths.proofs.step_on.Goals as goal

pub offset_bounds-counts-t : goal.offset_bounds-counts-t
offset_bounds-counts-t c =
    omega (arith, step_room c.requires.rows c.requires.counted c.requires.at c.requires.fact)

pub bounds-counts-t : goal.bounds-counts-t
bounds-counts-t c =
    step_room c.requires.rows c.requires.counted c.requires.at c.requires.fact

pub overflow_mul-result : goal.overflow_mul-result
overflow_mul-result c =
    omega (arith, step_label c.requires.rows c.requires.counted c.requires.at c.requires.fact)

pub overflow_add-result : goal.overflow_add-result
overflow_add-result c =
    omega (arith, step_label c.requires.rows c.requires.counted c.requires.at c.requires.fact)

pub returns-then-k-c : goal.returns-then-k-c
returns-then-k-c c =
    step-high c.requires.rows c.requires.counted c.requires.at c.requires.fact c.if-k-c.true

pub overflow_mul-result-3 : goal.overflow_mul-result-3
overflow_mul-result-3 c =
    omega (arith, step_label c.requires.rows c.requires.counted c.requires.at c.requires.fact)

pub returns : goal.returns
returns c =
    step-low c.requires.rows c.requires.counted c.requires.at c.requires.fact c.if-k-c.false
