use Rattle.checking.proofs.TestLaws.{action-wide, action-many, action-rest}
use Rattle.checking.proofs.action_fits.Goals as goal

pub returns-then-c : goal.returns-then-c
returns-then-c c =
    action-wide _ _ _ _ _ c.if-c.true

pub returns-then-n-gt-VARIANTS : goal.returns-then-n-gt-VARIANTS
returns-then-n-gt-VARIANTS c =
    action-many _ _ _ _ _ c.if-c.false c.if-n-gt-VARIANTS.true

pub returns : goal.returns
returns c =
    action-rest _ _ _ _ _ c.if-c.false c.if-n-gt-VARIANTS.false c.variants_fit.ensures
