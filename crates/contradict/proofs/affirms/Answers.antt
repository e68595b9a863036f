use Rattle.contradict.proofs.LiteralLaws.{affirms-even, affirms-truth, affirms-label}
use Rattle.contradict.proofs.affirms.Goals as goal

pub returns-then-x-eq0 : goal.returns-then-x-eq0
returns-then-x-eq0 c =
    affirms-even c.args.arities.now c.args.table.now c.args.x c.args.k c.if-x-eq0.true

pub returns-in_default : goal.returns-in_default
returns-in_default c =
    affirms-truth c.args.arities.now c.args.table.now c.args.x c.args.k c.if-x-eq0.false c.moved.ensures c.in_default.is

pub returns : goal.returns
returns c =
    affirms-label c.args.arities.now c.args.table.now c.args.x c.args.k c.if-x-eq0.false c.moved.ensures c.in-Is.is
