use Rattle.listing.proofs.RowLaws.{Passed}
use Rattle.listing.proofs.are_valid_rows.Given as goal

abbrev pub invariant-loop-i : goal.invariant-loop-i
invariant-loop-i l = Passed l.arities l.words l.heads l.links l.m l.i
