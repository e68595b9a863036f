use mathlib.Core.Path.{◌≡◌}
use lib.ListN.{length}
use Rattle.reduce.specs.Tables.{Ranked, Mapped}
use Rattle.reduce.proofs.object_map.Given as goal

abbrev pub invariant-loop-t : goal.invariant-loop-t
invariant-loop-t l = (length l.map ≡ length l.initial.map) × Ranked l.marks l.t l.c × Mapped l.marks l.objects l.map l.t
