use Rattle.reader.proofs.TermCode.{word-variable, word-minimum, word-other}
use borrow.Author.Rules.{rules}
use Rattle.reader.proofs.meet_word.Goals as goal

pub returns-in-Variable : goal.returns-in-Variable
returns-in-Variable c =
    search word-variable

pub returns-in-Minimum : goal.returns-in-Minimum
returns-in-Minimum c =
    search word-minimum

pub returns-in_default : goal.returns-in_default
returns-in_default c =
    search (rules, word-variable, word-minimum, word-other)
