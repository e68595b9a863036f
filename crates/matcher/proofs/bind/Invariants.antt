use Rattle.matcher.proofs.BindLaws.{Binding}
use Rattle.matcher.proofs.bind.Given as goal

abbrev pub invariant-loop-k : goal.invariant-loop-k
invariant-loop-k l = Binding l.tab l.initial.theta l.m l.l l.way l.theta l.k
