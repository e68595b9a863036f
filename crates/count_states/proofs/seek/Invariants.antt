use Prim.Native.Nat.{◌-◌}
use Rattle.count_states.proofs.TableLaws.{Seeking}
use Rattle.count_states.proofs.seek.Given as goal

abbrev pub invariant-loop-low : goal.invariant-loop-low
invariant-loop-low l = Seeking l.table l.count l.v l.low l.high

abbrev pub decreases-loop-low : goal.decreases-loop-low
decreases-loop-low l = l.high - l.low
