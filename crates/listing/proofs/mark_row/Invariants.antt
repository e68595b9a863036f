use Rattle.listing.proofs.MarkLaws.{MarkedTo}
use Rattle.listing.proofs.mark_row.Given as goal

abbrev pub invariant-loop-k : goal.invariant-loop-k
invariant-loop-k l = MarkedTo l.l l.initial.marks l.marks l.n l.k
