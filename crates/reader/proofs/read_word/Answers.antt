use Rattle.reader.proofs.WordCode.{word-name, word-variable, word-parameter, word-minimum, word_number, word-equal, word_holds, word-step, word_end}
use Rattle.reader.proofs.read_word.Goals as goal

pub returns-in-Name : goal.returns-in-Name
returns-in-Name c =
    search word-name

pub returns-in-Variable : goal.returns-in-Variable
returns-in-Variable c =
    search word-variable

pub returns-in-Parameter : goal.returns-in-Parameter
returns-in-Parameter c =
    search word-parameter

pub returns-in-Minimum : goal.returns-in-Minimum
returns-in-Minimum c =
    search word-minimum

pub returns-in-Number : goal.returns-in-Number
returns-in-Number c =
    search word_number

pub returns-in-Equal : goal.returns-in-Equal
returns-in-Equal c =
    search word-equal

pub returns-in-Holds : goal.returns-in-Holds
returns-in-Holds c =
    search word_holds

pub returns-in-Step : goal.returns-in-Step
returns-in-Step c =
    search word-step

pub returns-in-End : goal.returns-in-End
returns-in-End c =
    search word_end
