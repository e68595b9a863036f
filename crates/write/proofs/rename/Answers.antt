use Rattle.write.proofs.RenameLaws.{rename-start, rename-word, rename-on, rename-end}
use Rattle.write.proofs.rename.Goals as goal

pub loop-i-init : goal.loop-i-init
loop-i-init c =
    search rename-start

pub word_after-requires : goal.word_after-requires
word_after-requires c =
    search rename-word

pub loop-i-preserved : goal.loop-i-preserved
loop-i-preserved c =
    search rename-on

pub returns : goal.returns
returns c =
    search rename-end
