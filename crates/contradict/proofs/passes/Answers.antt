use mathlib.Core.Path.{◌∙◌}
use borrow.Author.Tests.{eq-eqb}
use Rattle.contradict.proofs.PathLaws.{passes-leaf, passes-other}
use Rattle.contradict.proofs.passes.Goals as goal

pub returns-then-leaf_of-w : goal.returns-then-leaf_of-w
returns-then-leaf_of-w c =
    eq-eqb _ _ c.if-leaf_of-w.true ∙ passes-leaf c.requires c.leaf_of.ensures c.if-leaf_of-w.true

pub returns-else-leaf_of-w : goal.returns-else-leaf_of-w
returns-else-leaf_of-w c =
    passes-other c.requires c.leaf_of.ensures c.if-leaf_of-w.false c.is_impossible.ensures
