use mathlib.Core.Path.{◌≡◌}
use mathlib.Core.Bool.{false}
use Rattle.apply.specs.Combination.{operate}
use Rattle.combine.specs.Results.{exceeds}
use Rattle.combine.proofs.overflow.Given as goal

abbrev pub invariant-loop-k : goal.invariant-loop-k
invariant-loop-k l = exceeds (operate l.op) l.plan l.k ≡ false
