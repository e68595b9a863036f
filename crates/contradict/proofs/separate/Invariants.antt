use Rattle.contradict.specs.Representing.{Own}
use Rattle.contradict.proofs.separate.Given as goal

abbrev pub invariant-loop-t : goal.invariant-loop-t
invariant-loop-t l = Own l.initial.table l.table l.t
