use Rattle.eliminate.proofs.SetLaws.{Gathering}
use Rattle.eliminate.proofs.variables.Given as goal

abbrev pub invariant-loop-k : goal.invariant-loop-k
invariant-loop-k l = Gathering l.arities l.l l.arity l.set l.k
