use Rattle.matcher.proofs.FindLaws.{Knowing}
use Rattle.matcher.proofs.all_known.Given as goal

abbrev pub invariant-loop-k : goal.invariant-loop-k
invariant-loop-k l = Knowing l.tab l.m l.l l.k
