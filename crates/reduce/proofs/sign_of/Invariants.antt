use Rattle.reduce.proofs.SearchLaws.{Passed}
use Rattle.reduce.proofs.sign_of.Given as goal

abbrev pub invariant-loop-c : goal.invariant-loop-c
invariant-loop-c l = Passed l.known l.fact l.count l.c
