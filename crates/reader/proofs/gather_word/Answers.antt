use Rattle.reader.proofs.GatherCode.{word-gathers, word-passes}
use Rattle.reader.proofs.gather_word.Goals as goal

pub returns-in-Some : goal.returns-in-Some
returns-in-Some c =
    search word-gathers

pub returns-in-None : goal.returns-in-None
returns-in-None c =
    search word-passes
