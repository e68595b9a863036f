use Rattle.matcher.proofs.OrderLaws.{Sharing}
use Rattle.matcher.proofs.shares.Given as goal

abbrev pub invariant-loop-k : goal.invariant-loop-k
invariant-loop-k l = Sharing l.seen l.x l.k
