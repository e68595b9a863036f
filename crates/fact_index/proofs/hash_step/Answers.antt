use mathlib.Core.Path.{refl}
use Rattle.fact_index.specs.Inner.{hash_step}
use borrow.Author.Rules.{rules}
use Rattle.fact_index.proofs.hash_step.Goals as goal

pub returns : goal.returns
unfolding hash_step
returns c =
    (refl, search rules)
