use mathlib.Core.Path.{◌≡◌}
use mathlib.Core.Bool.{true}
use Prim.Native.Nat.{◌≤◌}
use lib.ListN.{length}
use Rattle.cut.specs.Choosing.{Known, free_below}
use Rattle.cut.proofs.may_go.Given as goal

abbrev pub invariant-loop-p : goal.invariant-loop-p
invariant-loop-p l = (length l.memo ≡ length l.initial.memo) × (l.p ≤ l.m) × Known l.arities l.words l.memo l.n × (free_below l.arities l.words l.n l.sides l.side l.m l.p ≡ true)
