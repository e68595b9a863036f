use Rattle.reader.proofs.NumberCode.{Inserting}
use Rattle.reader.proofs.insert.Given as goal

abbrev pub invariant-loop-i : goal.invariant-loop-i
invariant-loop-i l = Inserting l.initial.variables l.count l.initial.carried l.variables l.i l.carried l.n
