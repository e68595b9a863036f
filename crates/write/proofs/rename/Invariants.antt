use Rattle.write.proofs.RenameLaws.{Renaming}
use Rattle.write.proofs.rename.Given as goal

abbrev pub invariant-loop-i : goal.invariant-loop-i
invariant-loop-i l = Renaming l.arities l.map l.initial.out l.out l.m l.i
