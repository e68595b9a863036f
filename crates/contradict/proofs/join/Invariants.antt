use Rattle.contradict.specs.Representing.{Merged}
use Rattle.contradict.proofs.join.Given as goal

abbrev pub invariant-loop-x : goal.invariant-loop-x
invariant-loop-x l = Merged l.initial.table l.t l.u l.table l.x
