use Prim.Native.Nat.{◌-◌}
use Rattle.paths.specs.Walking.{Rest}
use Rattle.paths.proofs.leaf_of.Given as goal

abbrev pub invariant-loop-i : goal.invariant-loop-i
invariant-loop-i l = Rest l.words l.n (l.n - 1) l.k l.i l.m

abbrev pub decreases-loop-i : goal.decreases-loop-i
decreases-loop-i l = l.i
