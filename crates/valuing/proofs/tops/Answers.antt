use borrow.Author.Rules.{rules}
use lib.ListN.{length-set}
use Rattle.valuing.proofs.StartLaws.{topped-start, topped-on, topped-end}
use Rattle.valuing.proofs.tops.Goals as goal

pub loop-i-init : goal.loop-i-init
loop-i-init c =
    (search rules, search topped-start)

pub loop-i-preserved : goal.loop-i-preserved
loop-i-preserved c =
    (simp length-set (search rules), search topped-on)

pub returns : goal.returns
returns c =
    search topped-end
