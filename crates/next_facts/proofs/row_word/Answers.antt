use Rattle.next_facts.proofs.StartLaws.{word_first, word-behind, word-object}
use Rattle.next_facts.proofs.row_word.Goals as goal

pub returns-then-i-eq0 : goal.returns-then-i-eq0
returns-then-i-eq0 c =
    search word_first

pub returns-then-i-k : goal.returns-then-i-k
returns-then-i-k c =
    search word-behind

pub returns : goal.returns
returns c =
    search word-object
