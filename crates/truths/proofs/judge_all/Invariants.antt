use Rattle.truths.specs.TruthCheckLaws.{JudgedTo}
use Rattle.truths.proofs.judge_all.Given as goal

abbrev pub invariant-loop-p : goal.invariant-loop-p
invariant-loop-p l = JudgedTo l.arities l.truths l.spans l.p
