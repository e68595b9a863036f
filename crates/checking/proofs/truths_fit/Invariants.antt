use Rattle.checking.proofs.TestLaws.{Looked}
use Rattle.label.specs.Limits.{predicate_count}
use Rattle.checking.specs.Fitting.{truth_fits}
use Rattle.checking.proofs.truths_fit.Given as goal

abbrev pub invariant-loop-p : goal.invariant-loop-p
invariant-loop-p l = Looked predicate_count (truth_fits l.arities l.listings l.table l.used l.c l.place) l.p
