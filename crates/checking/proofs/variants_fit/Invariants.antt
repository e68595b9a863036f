use Rattle.checking.proofs.TestLaws.{Looked}
use Rattle.model.specs.Layout.{variant_place}
use Rattle.checking.specs.Fitting.{variant_fits}
use Rattle.checking.proofs.variants_fit.Given as goal

abbrev pub invariant-loop-v : goal.invariant-loop-v
invariant-loop-v l = Looked l.n (λ w. variant_fits l.arities l.listings l.table l.used l.c (variant_place l.a w)) l.v
