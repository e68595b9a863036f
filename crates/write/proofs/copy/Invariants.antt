use Rattle.write.proofs.WriteLaws.{Copying}
use Rattle.write.proofs.copy.Given as goal

abbrev pub invariant-loop-i : goal.invariant-loop-i
invariant-loop-i l = Copying l.space l.initial.out l.out l.n l.i
