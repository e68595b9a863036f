use lib.Dec.{lit≤}
use native.Mathlib.Omega.{arith}
use Rattle.reduce.proofs.CheckLaws.{check-rows, check-room, check-some, check-many, check-valid, check-kinds, check-variables, check-small, check-runs, check-plain}
use Rattle.reduce.proofs.reduce_checked.Goals as goal

pub count_paths-requires-clause-rows : goal.count_paths-requires-clause-rows
count_paths-requires-clause-rows c =
    check-rows (c.requires)

pub count_paths-requires-clause-n_in_bounds : goal.count_paths-requires-clause-n_in_bounds
count_paths-requires-clause-n_in_bounds c =
    check-room (c.requires) 1024 (lit≤ tt)

pub overflow_sub-m : goal.overflow_sub-m
overflow_sub-m c =
    check-some c.requires

pub returns-then-m-gt-PATHS : goal.returns-then-m-gt-PATHS
returns-then-m-gt-PATHS c =
    check-many (c.requires) c.count_paths.ensures c.if-m-gt-PATHS.true

pub used-requires-clause-valid : goal.used-requires-clause-valid
used-requires-clause-valid c =
    check-valid c.requires

pub returns-then-has_kinds : goal.returns-then-has_kinds
returns-then-has_kinds c =
    check-kinds (c.requires) c.count_paths.ensures c.if-m-gt-PATHS.false c.has_kinds.ensures c.if-has_kinds.true

pub count_valuations-all-requires : goal.count_valuations-all-requires
count_valuations-all-requires c =
    check-variables (c.requires) c.count_paths.ensures c.if-m-gt-PATHS.false c.has_kinds.ensures c.if-has_kinds.false c.used.ensures c.count_variables-v.ensures

pub overflow_mul-all : goal.overflow_mul-all
overflow_mul-all c =
    omega
    (arith, check-small (c.requires) c.count_paths.ensures c.if-m-gt-PATHS.false c.has_kinds.ensures c.if-has_kinds.false c.used.ensures c.count_variables-v.ensures c.count_valuations-all.ensures)

pub returns-then-all-m-gt-RUNS : goal.returns-then-all-m-gt-RUNS
returns-then-all-m-gt-RUNS c =
    let few = c.if-m-gt-PATHS.false in
    let alike = c.if-has_kinds.false in
    check-runs (c.requires) c.count_paths.ensures few c.has_kinds.ensures alike c.used.ensures c.count_variables-v.ensures c.count_valuations-all.ensures c.if-all-m-gt-RUNS.true

pub reduce_plain-requires : goal.reduce_plain-requires
reduce_plain-requires c =
    let few = c.if-m-gt-PATHS.false in
    let alike = c.if-has_kinds.false in
    check-plain (c.requires) c.count_paths.ensures few c.has_kinds.ensures alike c.used.ensures c.count_variables-v.ensures c.count_valuations-all.ensures c.if-all-m-gt-RUNS.false
