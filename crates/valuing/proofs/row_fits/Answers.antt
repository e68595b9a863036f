use Rattle.valuing.proofs.CheckLaws.{fitting-start, fitting-on, fitting-no, fitting-all}
use borrow.Author.Rules.{rules}
use Rattle.valuing.proofs.row_fits.Goals as goal

pub loop-j-init : goal.loop-j-init
loop-j-init c =
    (search rules, search fitting-start)

pub returns-then-facts-i : goal.returns-then-facts-i
returns-then-facts-i c =
    search fitting-no

pub loop-j-preserved : goal.loop-j-preserved
loop-j-preserved c =
    (search rules, fitting-on c.requires c.place_count-k.ensures c.loop-j.invariant.1 c.loop-j-test.true c.if-facts-i.false)

pub returns : goal.returns
returns c =
    search fitting-all
