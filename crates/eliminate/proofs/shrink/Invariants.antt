use Rattle.eliminate.proofs.CountLaws.{Shrinking}
use Rattle.eliminate.proofs.shrink.Given as goal

abbrev pub invariant-loop-v : goal.invariant-loop-v
invariant-loop-v l = Shrinking l.n l.whole l.set l.rest l.size l.sum l.v
