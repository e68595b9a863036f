use Rattle.next_facts.proofs.StartLaws.{word-constant, word-parameter, word-argument, word-other}
use Rattle.next_facts.proofs.first_word.Goals as goal

pub returns-then-t : goal.returns-then-t
returns-then-t c =
    search word-constant

pub returns-then-t-lt-ARGUMENTS : goal.returns-then-t-lt-ARGUMENTS
returns-then-t-lt-ARGUMENTS c =
    search word-parameter

pub returns-then-t-k : goal.returns-then-t-k
returns-then-t-k c =
    search word-argument

pub returns : goal.returns
returns c =
    search word-other
