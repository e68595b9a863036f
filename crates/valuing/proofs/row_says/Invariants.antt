use Prim.Native.Nat.{◌≤◌}
use Rattle.valuing.proofs.FactLaws.{Saying}
use Rattle.valuing.proofs.row_says.Given as goal

abbrev pub invariant-loop-j : goal.invariant-loop-j
invariant-loop-j l = (l.j ≤ l.k) × Saying l.facts l.env l.l.packed l.i l.j
