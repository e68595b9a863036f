use Prim.Native.Nat.{◌≤◌}
use Rattle.valuing.proofs.CheckLaws.{Fitting}
use Rattle.valuing.proofs.row_fits.Given as goal

abbrev pub invariant-loop-j : goal.invariant-loop-j
invariant-loop-j l = (l.j ≤ l.k) × Fitting l.arities l.n l.facts l.i l.j
