use Rattle.valuing.proofs.CheckLaws.{Unmarked}
use Rattle.valuing.proofs.has_parameter.Given as goal

abbrev pub invariant-loop-k : goal.invariant-loop-k
invariant-loop-k l = Unmarked l.marks l.k
