use Rattle.matcher.proofs.FindLaws.{Packing}
use Rattle.matcher.proofs.image.Given as goal

abbrev pub invariant-loop-k : goal.invariant-loop-k
invariant-loop-k l = Packing l.theta l.l l.n l.k
