use Rattle.write.proofs.WriteLaws.{Emitting}
use Rattle.write.proofs.emit.Given as goal

abbrev pub invariant-loop-j : goal.invariant-loop-j
invariant-loop-j l = Emitting l.space l.marks l.order l.m l.initial.out l.out l.j
