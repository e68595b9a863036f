use mathlib.Core.Path.{refl}
use Rattle.matcher.proofs.BindLaws.{first_fits, first-after, again-fits, again-after}
use Rattle.matcher.proofs.place.Goals as goal

pub returns-then-tab-t-clause-value : goal.returns-then-tab-t-clause-value
returns-then-tab-t-clause-value c =
    search first_fits

pub returns-then-tab-t-clause-theta_after : goal.returns-then-tab-t-clause-theta_after
returns-then-tab-t-clause-theta_after c =
    search first-after

pub returns-clause-value : goal.returns-clause-value
returns-clause-value c =
    again-fits _ _ _ _ _ refl c.if-tab-t.false

pub returns-clause-theta_after : goal.returns-clause-theta_after
returns-clause-theta_after c =
    again-after _ _ _ _ _ refl c.if-tab-t.false
