use Rattle.plan.specs.Plan.{hash_of}
use mathlib.Core.Path.{refl}
use borrow.Author.Rules.{rules}
use Rattle.plan.proofs.hash.Goals as goal

pub returns : goal.returns
unfolding hash_of
returns c =
    (refl, search rules)
