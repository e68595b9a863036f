use Prim.Native.Nat.{◌-◌}
use Rattle.paths.specs.Walking.{Coming}
use Rattle.paths.proofs.path_into.Given as goal

abbrev pub invariant-loop-i : goal.invariant-loop-i
invariant-loop-i l = Coming l.words l.n (l.n - 1) l.k l.initial.out l.out l.first l.i l.m l.j

abbrev pub decreases-loop-i : goal.decreases-loop-i
decreases-loop-i l = l.i
