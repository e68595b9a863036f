use Rattle.truths.specs.TruthCheckLaws.{high-branch, high_value}
use Rattle.truths.proofs.is_high_leaf.Goals as goal

pub returns-then-words-k : goal.returns-then-words-k
returns-then-words-k c =
    search high_value

pub returns-else-words-k : goal.returns-else-words-k
returns-else-words-k c =
    search high-branch
