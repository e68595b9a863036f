use Rattle.facts.proofs.FactLaws.{Looked}
use Rattle.facts.proofs.is_fact.Given as goal

abbrev pub invariant-loop-at : goal.invariant-loop-at
invariant-loop-at l = Looked l.facts l.index l.row l.bucket l.at

abbrev pub decreases-loop-at : goal.decreases-loop-at
decreases-loop-at l = l.at
