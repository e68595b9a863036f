use Rattle.checking.proofs.TestLaws.{Looked}
use Rattle.checking.specs.Fitting.{action_fits}
use Rattle.checking.proofs.actions_fit.Given as goal

abbrev pub invariant-loop-a : goal.invariant-loop-a
invariant-loop-a l = Looked l.n (action_fits l.arities l.listings l.table l.used) l.a
