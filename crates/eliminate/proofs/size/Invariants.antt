use Rattle.eliminate.proofs.SetLaws.{Sizing}
use Rattle.eliminate.proofs.size.Given as goal

abbrev pub invariant-loop-v : goal.invariant-loop-v
invariant-loop-v l = Sizing l.n l.set l.rest l.size l.v
