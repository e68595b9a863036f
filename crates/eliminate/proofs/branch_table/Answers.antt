use native.Mathlib.Omega.{arith}
use Rattle.eliminate.proofs.BranchLaws.{branch-labelled, branch-high, branch-low, branch-rowing, branch-full, branch-filling, branch-done}
use Rattle.eliminate.proofs.branch_table.Goals as goal

pub variables-own-requires : goal.variables-own-requires
variables-own-requires c =
    branch-labelled c.requires

pub overflow_mul-all : goal.overflow_mul-all
overflow_mul-all c =
    omega (arith, branch-high c.requires)

pub offset_bounds-heads-high : goal.offset_bounds-heads-high
offset_bounds-heads-high c =
    omega (arith, branch-high c.requires)

pub bounds-heads-high : goal.bounds-heads-high
bounds-heads-high c =
    omega (arith, branch-high c.requires)

pub overflow_mul-all-2 : goal.overflow_mul-all-2
overflow_mul-all-2 c =
    omega (arith, branch-low c.requires)

pub offset_bounds-heads-low : goal.offset_bounds-heads-low
offset_bounds-heads-low c =
    omega (arith, branch-low c.requires)

pub bounds-heads-low : goal.bounds-heads-low
bounds-heads-low c =
    omega (arith, branch-low c.requires)

pub overflow_mul-high-2 : goal.overflow_mul-high-2
overflow_mul-high-2 c =
    omega (arith, branch-high c.requires)

pub offset_bounds-heads-high-2 : goal.offset_bounds-heads-high-2
offset_bounds-heads-high-2 c =
    omega (arith, branch-high c.requires)

pub bounds-heads-high-2 : goal.bounds-heads-high-2
bounds-heads-high-2 c =
    omega (arith, branch-high c.requires)

pub overflow_mul-low-2 : goal.overflow_mul-low-2
overflow_mul-low-2 c =
    omega (arith, branch-low c.requires)

pub offset_bounds-heads-low-2 : goal.offset_bounds-heads-low-2
offset_bounds-heads-low-2 c =
    omega (arith, branch-low c.requires)

pub bounds-heads-low-2 : goal.bounds-heads-low-2
bounds-heads-low-2 c =
    omega (arith, branch-low c.requires)

pub row_entries-e-requires : goal.row_entries-e-requires
row_entries-e-requires c =
    branch-rowing c.requires c.variables-own.result c.variables-own.ensures

pub returns-then-e-used : goal.returns-then-e-used
returns-then-e-used c =
    branch-full c.requires c.variables-own.result c.variables-own.ensures _ c.row_entries-e.ensures c.if-e-used.true

pub fill-requires : goal.fill-requires
fill-requires c =
    branch-filling c.requires c.variables-own.result c.variables-own.ensures _ c.row_entries-e.ensures c.if-e-used.false c.size-count.ensures c.size.ensures

pub returns : goal.returns
returns c =
    branch-done c.requires c.variables-own.result c.variables-own.ensures _ c.row_entries-e.ensures c.if-e-used.false c.size-count.ensures c.size.ensures c.fill.ensures
