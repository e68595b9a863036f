use Rattle.listing.proofs.MarkLaws.{Marking}
use Rattle.listing.proofs.used.Given as goal

abbrev pub invariant-loop-i : goal.invariant-loop-i
invariant-loop-i l = Marking l.arities l.words l.marks l.i
