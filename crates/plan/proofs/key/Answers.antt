use Rattle.plan.specs.Plan.{key_of}
use mathlib.Core.Path.{refl}
use borrow.Author.Rules.{rules}
use Rattle.plan.proofs.key.Goals as goal

pub returns : goal.returns
unfolding key_of
returns c =
    (refl, search rules)
