use Rattle.eliminate.specs.Above.{Above}
use Rattle.eliminate.proofs.find_above.Given as goal

abbrev pub invariant-loop-i : goal.invariant-loop-i
invariant-loop-i l = Above l.arities l.words l.above l.i
