use borrow.Author.Tests.{not-true, not-false}
use Rattle.valuing.proofs.CheckLaws.{bound-few, bound-many}
use Rattle.std.proofs.lemmas.Bool.{not_from_false}
use Rattle.std.proofs.lemmas.Bool.{not_from_true}
use Rattle.valuing.proofs.value_by.Goals as goal

pub returns-then-not-few : goal.returns-then-not-few
returns-then-not-few c =
    bound-many _ _ _ _ _ _ c.requires.few_value (not-true _ (not_from_false _ c.if-not-few.true)) c.by_tables.ensures

pub returns-then-facts : goal.returns-then-facts
returns-then-facts c =
    bound-few _ _ _ _ _ _ c.requires.few_value (not-false _ (not_from_true _ c.if-not-few.false)) c.number_with.ensures

pub returns : goal.returns
returns c =
    bound-few _ _ _ _ _ _ c.requires.few_value (not-false _ (not_from_true _ c.if-not-few.false)) c.number_with-2.ensures
