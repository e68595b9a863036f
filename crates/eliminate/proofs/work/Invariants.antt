use Rattle.eliminate.proofs.WorkLaws.{Going}
use Rattle.eliminate.proofs.work.Given as goal

abbrev pub invariant-loop-i : goal.invariant-loop-i
invariant-loop-i l = Going l.arities l.facts l.words l.above l.initial.heads l.initial.space l.initial.env l.n l.heads l.space l.env l.i l.next l.used
