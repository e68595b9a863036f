use Rattle.plan.proofs.StepLaws.{Clearing}
use Rattle.plan.proofs.clear.Given as goal

abbrev pub invariant-loop-i : goal.invariant-loop-i
invariant-loop-i l = Clearing l.plan l.heads l.count l.i
