use Rattle.truths.specs.TruthCheckLaws.{LowTo}
use Rattle.truths.proofs.has_high_leaf.Given as goal

abbrev pub invariant-loop-k : goal.invariant-loop-k
invariant-loop-k l = LowTo l.words l.k
