use Rattle.reduce.proofs.TableLaws.{word-leaf, word-movable, word-branch}
use Rattle.reduce.proofs.fact_word.Goals as goal

pub returns-then-w : goal.returns-then-w
returns-then-w c =
    search word-leaf

pub renamed-requires : goal.renamed-requires
renamed-requires c =
    search word-movable

pub returns : goal.returns
returns c =
    search word-branch
