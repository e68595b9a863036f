use Prim.Native.Nat.{◌≤◌}
use Rattle.label.proofs.CodeLaws.{TermsTo}
use Rattle.label.proofs.Label.fits.Given as goal

abbrev pub invariant-loop-k : goal.invariant-loop-k
invariant-loop-k l = (l.k ≤ l.used) × TermsTo l.self.packed l.k
