use Rattle.rename.proofs.RowSteps.{row_word, renaming-on, renaming-end}
use Rattle.rename.proofs.relabel_rows.Goals as goal

pub relabel_word-requires : goal.relabel_word-requires
relabel_word-requires c =
    search row_word

pub loop-k-preserved : goal.loop-k-preserved
loop-k-preserved c =
    search renaming-on

pub returns : goal.returns
returns c =
    search renaming-end
