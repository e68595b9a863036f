use mathlib.Core.Path.{refl}
use Rattle.fact_index.specs.Inner.{hash_start}
use borrow.Author.Rules.{rules}
use Rattle.fact_index.proofs.hash_start.Goals as goal

pub returns : goal.returns
unfolding hash_start
returns c =
    (refl, search rules)
