use Rattle.listing.proofs.MarkLaws.{Counting}
use Rattle.listing.proofs.count_between.Given as goal

abbrev pub invariant-loop-t : goal.invariant-loop-t
invariant-loop-t l = Counting l.marks l.first l.end l.n l.t
