use Rattle.write.proofs.RenameLaws.{word-leaf, word-branch}
use Rattle.write.proofs.word_after.Goals as goal

pub returns-then-x-eq-LEAF : goal.returns-then-x-eq-LEAF
returns-then-x-eq-LEAF c =
    search word-leaf

pub returns-else-x-eq-LEAF : goal.returns-else-x-eq-LEAF
returns-else-x-eq-LEAF c =
    search word-branch
