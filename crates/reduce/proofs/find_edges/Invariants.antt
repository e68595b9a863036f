use mathlib.Core.Path.{◌≡◌}
use lib.ListN.{length}
use Rattle.reduce.proofs.EdgeLaws.{Told}
use Rattle.reduce.proofs.find_edges.Given as goal

abbrev pub invariant-loop-i : goal.invariant-loop-i
invariant-loop-i l = (length l.edges ≡ length l.initial.edges) × Told l.words l.wins l.m l.edges l.i
