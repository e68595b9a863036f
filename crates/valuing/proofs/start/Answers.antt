use borrow.Author.Rules.{rules}
use lib.ListN.{length-set}
use Rattle.valuing.proofs.StartLaws.{placing-on, placing-end}
use Rattle.valuing.proofs.start.Goals as goal

pub loop-t-preserved : goal.loop-t-preserved
loop-t-preserved c =
    (simp length-set (search rules), search rules, search placing-on)

pub returns : goal.returns
returns c =
    search placing-end
