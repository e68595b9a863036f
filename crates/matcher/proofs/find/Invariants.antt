use Prim.Native.Nat.{◌-◌}
use Rattle.matcher.proofs.FindLaws.{Between}
use Rattle.matcher.proofs.find.Given as goal

abbrev pub invariant-loop-low : goal.invariant-loop-low
invariant-loop-low l = Between l.into l.y l.low l.high

abbrev pub decreases-loop-low : goal.decreases-loop-low
decreases-loop-low l = l.high - l.low
