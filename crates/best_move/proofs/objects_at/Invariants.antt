use Rattle.best_move.proofs.DigitLaws.{Dividing}
use Rattle.best_move.proofs.objects_at.Given as goal

abbrev pub invariant-loop-k : goal.invariant-loop-k
invariant-loop-k l = Dividing l.initial.objects l.n l.count l.i l.objects l.rest l.k
