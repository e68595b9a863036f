use Rattle.eliminate.proofs.BestLaws.{Seeking}
use Rattle.eliminate.proofs.best.Given as goal

abbrev pub invariant-loop-c : goal.invariant-loop-c
invariant-loop-c l = Seeking l.arities l.facts l.heads l.space l.initial.env l.n l.l l.high l.low l.set l.m l.env l.best l.c
