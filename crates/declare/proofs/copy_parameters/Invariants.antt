use Prim.Native.Nat.{◌≤◌}
use Rattle.declare.specs.Inner.{Copied}
use Rattle.declare.proofs.copy_parameters.Given as goal

abbrev pub invariant-loop-i : goal.invariant-loop-i
invariant-loop-i l = Copied l.keys l.initial.table l.table l.i × (l.i ≤ l.n)
