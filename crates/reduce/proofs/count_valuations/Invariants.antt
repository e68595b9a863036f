use mathlib.Core.Path.{◌≡◌}
use Prim.Native.Nat.{◌^◌, ◌≤◌}
use Rattle.reduction.specs.Reduction.{most_runs}
use Rattle.reduce.proofs.count_valuations.Given as goal

abbrev pub invariant-loop-j : goal.invariant-loop-j
invariant-loop-j l = (l.j ≤ l.v) × (l.p ≡ l.v ^ l.j) × (l.p ≤ most_runs)
