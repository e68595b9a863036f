use Rattle.contradict.proofs.PathLaws.{Passed}
use Rattle.contradict.proofs.all_pass.Given as goal

abbrev pub invariant-loop-k : goal.invariant-loop-k
invariant-loop-k l = Passed l.arities l.words l.n l.m l.w l.k
