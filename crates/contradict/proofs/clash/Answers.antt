use mathlib.Core.Path.{refl, sym, ◌∙◌}
use Rattle.contradict.proofs.LiteralLaws.{from-hit, from_next, from_end, literal-movable, clash-is}
use Rattle.contradict.proofs.clash.Goals as goal

pub clashes-requires-clause-movable : goal.clashes-requires-clause-movable
clashes-requires-clause-movable c =
    literal-movable c.requires c.loop-x-test.true refl

pub returns-then-clashes : goal.returns-then-clashes
returns-then-clashes c =
    from-hit _ _ c.loop-x.invariant c.loop-x-test.true c.clashes.ensures refl c.if-clashes.true
    ∙ sym (clash-is c.args.arities.now c.args.table.now c.args.literals.now)

pub loop-x-preserved : goal.loop-x-preserved
loop-x-preserved c =
    from_next _ _ c.loop-x.invariant c.loop-x-test.true c.clashes.ensures refl c.if-clashes.false

pub returns : goal.returns
returns c =
    from_end _ _ c.loop-x.invariant c.loop-x-test.false ∙ sym (clash-is c.args.arities.now c.args.table.now c.args.literals.now)
