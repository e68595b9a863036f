use Rattle.matcher.proofs.MarkLaws.{Unplacing}
use Rattle.matcher.proofs.unplace.Given as goal

abbrev pub invariant-loop-v : goal.invariant-loop-v
invariant-loop-v l = Unplacing l.initial.tab l.tab l.v
