use mathlib.Core.Path.{◌≡◌}
use Prim.Native.Nat.{◌*◌, ◌≤◌}
use lib.ListN.{length}
use Rattle.reduce.specs.Tables.{Tabled}
use Rattle.reduce.proofs.fill_facts.Given as goal

abbrev pub invariant-loop-i : goal.invariant-loop-i
invariant-loop-i l = (length l.facts ≡ length l.initial.facts) × (l.i ≤ l.all) × (l.base ≡ l.i * l.n) × Tabled l.arities l.words l.marks l.n l.v l.i l.facts
