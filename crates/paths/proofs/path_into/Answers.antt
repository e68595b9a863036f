use native.Mathlib.Omega.{arith}
use Rattle.paths.proofs.RouteLaws.{coming-few, coming-room, coming-next, coming-end, leaf-label}
use Rattle.paths.proofs.path_into.Goals as goal

pub step_on-s-requires-clause-fact : goal.step_on-s-requires-clause-fact
step_on-s-requires-clause-fact c =
    leaf-label _ _ c.loop-i-test.true

pub overflow_add-out : goal.overflow_add-out
overflow_add-out c =
    omega (arith, coming-few c.requires.rows c.loop-i.invariant c.requires.most_paths_in_bounds c.requires.at c.step_on-s.ensures)

pub offset_bounds-out-first : goal.offset_bounds-out-first
offset_bounds-out-first c =
    omega (arith, coming-few c.requires.rows c.loop-i.invariant c.requires.most_paths_in_bounds c.requires.at c.step_on-s.ensures)

pub bounds-out-first : goal.bounds-out-first
bounds-out-first c =
    coming-room c.requires.rows c.loop-i.invariant c.requires.most_paths_in_bounds c.requires.at c.step_on-s.ensures

pub overflow_add-j : goal.overflow_add-j
overflow_add-j c =
    omega (arith, coming-few c.requires.rows c.loop-i.invariant c.requires.most_paths_in_bounds c.requires.at c.step_on-s.ensures)

pub loop-i-preserved : goal.loop-i-preserved
loop-i-preserved c =
    coming-next c.requires.rows c.loop-i.invariant c.requires.most_paths_in_bounds c.requires.at c.step_on-s.ensures

pub returns : goal.returns
returns c =
    coming-end c.requires.rows c.loop-i.invariant c.requires.most_paths_in_bounds c.requires.at c.loop-i-test.false
