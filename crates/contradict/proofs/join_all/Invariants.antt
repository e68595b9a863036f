use Rattle.contradict.specs.Representing.{Represented}
use Rattle.contradict.proofs.join_all.Given as goal

abbrev pub invariant-loop-j : goal.invariant-loop-j
invariant-loop-j l = Represented l.literals l.j l.table
