use Rattle.cut.proofs.ChoosingLaws.{zero-branch, zero-leaf}
use Rattle.cut.proofs.is_zero.Goals as goal

pub returns-then-words-i : goal.returns-then-words-i
returns-then-words-i c =
    zero-leaf c.requires.rows c.requires.i_lt_n c.if-words-i.true

pub returns-else-words-i : goal.returns-else-words-i
returns-else-words-i c =
    zero-branch c.requires.rows c.requires.i_lt_n c.if-words-i.false
