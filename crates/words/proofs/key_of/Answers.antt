use Rattle.words.proofs.KeyCode.{key-short, key-long}
use Rattle.words.proofs.key_of.Goals as goal

pub returns-then-s-le8 : goal.returns-then-s-le8
returns-then-s-le8 c =
    search key-short

pub returns : goal.returns
returns c =
    search key-long
