use Rattle.contradict.proofs.LiteralLaws.{clashes-odd, clashes-truth, clashes-label}
use Rattle.contradict.proofs.clashes.Goals as goal

pub returns-then-x-eq1 : goal.returns-then-x-eq1
returns-then-x-eq1 c =
    clashes-odd c.args.arities.now c.args.table.now c.args.x c.args.literals.now c.if-x-eq1.true

pub returns-in_default : goal.returns-in_default
returns-in_default c =
    clashes-truth c.args.arities.now c.args.table.now c.args.x c.args.literals.now c.if-x-eq1.false c.moved.ensures c.in_default.is

pub returns : goal.returns
returns c =
    clashes-label c.args.arities.now c.args.table.now c.args.x c.args.literals.now c.if-x-eq1.false c.moved.ensures c.in-Is.is
    c.is_affirmed.ensures
