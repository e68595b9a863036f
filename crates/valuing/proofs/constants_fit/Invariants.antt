use Rattle.valuing.proofs.CheckLaws.{Placing}
use Rattle.valuing.proofs.constants_fit.Given as goal

abbrev pub invariant-loop-c : goal.invariant-loop-c
invariant-loop-c l = Placing l.n l.constants l.c
