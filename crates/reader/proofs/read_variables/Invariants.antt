use Rattle.reader.proofs.HeadCode.{Arguments}
use Rattle.reader.proofs.read_variables.Given as goal

abbrev pub invariant-loop-n : goal.invariant-loop-n
invariant-loop-n l = Arguments l.line l.at l.arity l.initial.variables l.variables l.place l.n
