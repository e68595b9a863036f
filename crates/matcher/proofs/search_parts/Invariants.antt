use lib.ListN.{length}
use Prim.Native.Nat.{◌-◌}
use Rattle.matcher.proofs.PartLaws.{Parted}
use Rattle.matcher.proofs.search_parts.Given as goal

abbrev pub invariant-loop-k : goal.invariant-loop-k
invariant-loop-k l = Parted l.initial.ord l.into l.initial.tab l.initial.theta l.ord l.tab l.theta l.seen l.k

abbrev pub decreases-loop-k : goal.decreases-loop-k
decreases-loop-k l = length l.initial.ord - l.k
