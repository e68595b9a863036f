use Rattle.truths.proofs.LentLaws.{words_are}
use Rattle.truths.proofs.truth_words.Goals as goal

pub returns : goal.returns
returns c =
    search words_are
