use mathlib.Core.Path.{refl}
use Rattle.fact_index.specs.Inner.{bucket_for}
use borrow.Author.Rules.{rules}
use Rattle.fact_index.proofs.bucket.Goals as goal

pub returns : goal.returns
unfolding bucket_for
returns c =
    (refl, search rules)
