use Rattle.label.specs.Labels.{predicate_of}
use Rattle.eliminate.specs.Calls.{objects_of}
use Rattle.eliminate.proofs.TruthLaws.{Seeking}
use Rattle.eliminate.proofs.said.Given as goal

abbrev pub invariant-loop-i : goal.invariant-loop-i
invariant-loop-i l = Seeking l.arities l.facts (objects_of l.arities l.env l.l) (predicate_of l.l) l.i
