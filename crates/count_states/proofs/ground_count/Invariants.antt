use Rattle.count_states.proofs.PowerLaws.{Grounding}
use Rattle.count_states.proofs.ground_count.Given as goal

abbrev pub invariant-loop-p : goal.invariant-loop-p
invariant-loop-p l = Grounding l.arities l.predicates l.n l.g l.p
