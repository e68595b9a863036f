use Rattle.truths.specs.TruthCheckLaws.{ListedTo}
use Rattle.truths.proofs.are_listed.Given as goal

abbrev pub invariant-loop-p : goal.invariant-loop-p
invariant-loop-p l = ListedTo l.arities l.truths l.spans l.p
