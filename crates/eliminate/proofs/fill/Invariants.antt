use Rattle.eliminate.proofs.FillLaws.{Writing}
use Rattle.eliminate.proofs.fill.Given as goal

abbrev pub invariant-loop-e : goal.invariant-loop-e
invariant-loop-e l = Writing l.arities l.facts l.heads l.initial.space l.initial.env l.n l.l l.high l.low l.kept l.start l.count l.drops l.m l.space l.env l.e
