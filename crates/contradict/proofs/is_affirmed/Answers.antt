use mathlib.Core.Path.{refl}
use Rattle.contradict.proofs.LiteralLaws.{from-hit, from_next, from_end, literal-movable}
use Rattle.contradict.proofs.is_affirmed.Goals as goal

pub affirms-requires : goal.affirms-requires
affirms-requires c =
    literal-movable c.requires c.loop-x-test.true refl

pub returns-then-affirms : goal.returns-then-affirms
returns-then-affirms c =
    from-hit _ _ c.loop-x.invariant c.loop-x-test.true c.affirms.ensures refl c.if-affirms.true

pub loop-x-preserved : goal.loop-x-preserved
loop-x-preserved c =
    from_next _ _ c.loop-x.invariant c.loop-x-test.true c.affirms.ensures refl c.if-affirms.false

pub returns : goal.returns
returns c =
    from_end _ _ c.loop-x.invariant c.loop-x-test.false
