use mathlib.Core.Path.{refl}
use Rattle.table.specs.Table.{hash_of}
use borrow.Author.Rules.{rules}
use Rattle.table.proofs.hash.Goals as goal

pub returns : goal.returns
unfolding hash_of
returns c =
    (refl, search rules)
