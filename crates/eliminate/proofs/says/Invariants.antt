use Rattle.eliminate.proofs.TruthLaws.{Saying}
use Rattle.eliminate.proofs.says.Given as goal

abbrev pub invariant-loop-k : goal.invariant-loop-k
invariant-loop-k l = Saying l.arities l.facts l.env l.l l.i l.arity l.k
