use Rattle.eliminate.proofs.DigitLaws.{Placing}
use Rattle.eliminate.proofs.place.Given as goal

abbrev pub invariant-loop-v : goal.invariant-loop-v
invariant-loop-v l = Placing l.env l.n l.set l.rest l.weight l.at l.v
