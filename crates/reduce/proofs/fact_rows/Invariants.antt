use mathlib.Core.Path.{◌≡◌}
use Prim.Native.Nat.{◌≤◌}
use lib.ListN.{length}
use Rattle.reduce.specs.Tables.{Filled}
use Rattle.reduce.proofs.fact_rows.Given as goal

abbrev pub invariant-loop-r : goal.invariant-loop-r
invariant-loop-r l = (length l.facts ≡ length l.initial.facts) × (l.r ≤ l.n) × Filled l.arities l.words l.map l.base l.r l.initial.facts l.facts
