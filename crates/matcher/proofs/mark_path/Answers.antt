use mathlib.Core.Path.{refl}
use Rattle.matcher.proofs.MarkLaws.{marking-markable, marking-next}
use Rattle.matcher.proofs.mark_path.Goals as goal

pub mark_literal-requires : goal.mark_literal-requires
mark_literal-requires c =
    marking-markable c.requires.coded c.loop-i.invariant c.loop-i-test.true refl

pub loop-i-preserved : goal.loop-i-preserved
loop-i-preserved c =
    marking-next c.requires.coded c.loop-i.invariant c.loop-i-test.true refl c.mark_literal.ensures
