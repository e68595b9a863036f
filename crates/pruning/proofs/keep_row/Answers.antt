use native.Mathlib.Omega.{arith}
use Rattle.pruning.proofs.KeepingLaws.{keep-leaf, row-edges, row-high, row_low, row-children, keep-branch}
use Rattle.pruning.proofs.keep_row.Goals as goal

pub returns-then-l : goal.returns-then-l
returns-then-l c =
    keep-leaf c.requires.keeping c.requires.i_bound c.if-l.true c.leaf.ensures

pub child-high-requires-clause-e_in_bounds : goal.child-high-requires-clause-e_in_bounds
child-high-requires-clause-e_in_bounds c =
    omega (arith, row-edges c.requires.keeping c.requires.i_bound c.if-l.false)

pub child-high-requires-clause-k_in_bounds : goal.child-high-requires-clause-k_in_bounds
child-high-requires-clause-k_in_bounds c =
    row-high c.requires.keeping c.requires.i_bound c.if-l.false

pub child-low-requires-clause-e_in_bounds : goal.child-low-requires-clause-e_in_bounds
child-low-requires-clause-e_in_bounds c =
    row-edges c.requires.keeping c.requires.i_bound c.if-l.false

pub child-low-requires-clause-k_in_bounds : goal.child-low-requires-clause-k_in_bounds
child-low-requires-clause-k_in_bounds c =
    row_low c.requires.keeping c.requires.i_bound c.if-l.false

pub branch-space-requires-clause-holds : goal.branch-space-requires-clause-holds
branch-space-requires-clause-holds c =
    c.requires.keeping.holds

pub branch-space-requires-clause-children : goal.branch-space-requires-clause-children
branch-space-requires-clause-children c =
    row-children c.requires.keeping c.requires.i_bound c.if-l.false c.child-high.ensures c.child-low.ensures

pub returns : goal.returns
returns c =
    keep-branch c.requires.keeping c.requires.i_bound c.if-l.false c.child-high.ensures c.child-low.ensures c.branch-space.ensures
