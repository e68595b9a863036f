use mathlib.Core.Path.{◌≡◌}
use mathlib.Core.Bool.{false}
use Prim.Native.Nat.{◌-◌, ◌≤◌}
use lib.Dec.{eqb}
use Rattle.diagram.specs.Validity.{tree}
use Rattle.reduction.specs.Reduction.{is_on}
use Rattle.reduce.specs.Routing.{winning}
use Rattle.reduce.proofs.edge_word.Given as goal

abbrev pub invariant-loop-p : goal.invariant-loop-p
invariant-loop-p l = (l.p ≤ l.m) × (is_on (tree l.words (l.n - 1)) (winning l.wins l.p) (tree l.words l.r) (eqb l.side 1) ≡ false)
