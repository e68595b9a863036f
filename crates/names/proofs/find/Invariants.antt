use Rattle.names.proofs.SearchCode.{Passed}
use Rattle.names.proofs.find.Given as goal

abbrev pub invariant-loop-i : goal.invariant-loop-i
invariant-loop-i l = Passed l.s l.base l.n l.key l.i
