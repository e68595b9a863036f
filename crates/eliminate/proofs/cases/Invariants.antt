use Rattle.eliminate.proofs.SetLaws.{Casing}
use Rattle.eliminate.proofs.cases.Given as goal

abbrev pub invariant-loop-c : goal.invariant-loop-c
invariant-loop-c l = Casing l.arities l.facts l.initial.env l.n l.l l.set l.m l.env l.count l.c
