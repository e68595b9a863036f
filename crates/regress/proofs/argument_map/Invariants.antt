use mathlib.Core.Path.{◌≡◌}
use lib.ListN.{length}
use Rattle.regress.proofs.TruthLaws.{Arguing}
use Rattle.regress.proofs.argument_map.Given as goal

abbrev pub invariant-loop-t : goal.invariant-loop-t
invariant-loop-t l = (length l.map ≡ length l.initial.map) × Arguing l.arities l.label l.n l.map l.t
