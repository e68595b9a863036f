use Rattle.checking.proofs.TestLaws.{Looked}
use mathlib.Core.Bool.{◌||◌}
use lib.Dec.{eqb, leb}
use lib.ListN.{get_or}
use Rattle.label.specs.Limits.{predicate_count}
use Prim.Native.Nat.{◌-◌}
use Rattle.restoring.proofs.undeclared_fit.Given as goal

abbrev pub invariant-loop-p : goal.invariant-loop-p
invariant-loop-p l = Looked predicate_count (λ q. leb q l.n || eqb (get_or l.arities q 0) 0) l.p
