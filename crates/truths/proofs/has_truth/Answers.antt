use Rattle.truths.proofs.LentLaws.{has-none, has_words}
use Rattle.truths.proofs.has_truth.Goals as goal

pub returns-then-p-ne0 : goal.returns-then-p-ne0
returns-then-p-ne0 c =
    search has_words

pub returns-else-p-ne0 : goal.returns-else-p-ne0
returns-else-p-ne0 c =
    search has-none
