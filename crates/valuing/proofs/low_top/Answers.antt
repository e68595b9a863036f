use Rattle.valuing.proofs.StartLaws.{top-leaf, top-branch}
use Rattle.valuing.proofs.RisingLaws.{turn-value}
use Rattle.valuing.proofs.low_top.Goals as goal

pub turned_leaf-requires : goal.turned_leaf-requires
turned_leaf-requires c =
    search turn-value

pub returns-then-words-i : goal.returns-then-words-i
returns-then-words-i c =
    search top-leaf

pub returns : goal.returns
returns c =
    search top-branch
