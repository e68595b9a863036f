use Rattle.c_library.proofs.SessionLaws.{enter-none, enter-small, enter-in}
use Rattle.std.proofs.lemmas.Bool.{not_from_false}
use Rattle.std.proofs.lemmas.Bool.{not_from_true}
use Rattle.c_library.proofs.enter.Goals as goal

pub returns-then-not-is_open : goal.returns-then-not-is_open
returns-then-not-is_open c =
    enter-none _ _ c.is_open.ensures (not_from_false _ c.if-not-is_open.true) c.number.ensures

pub returns-then-not-can_answer : goal.returns-then-not-can_answer
returns-then-not-can_answer c =
    enter-small _ _ c.is_open.ensures (not_from_true _ c.if-not-is_open.false) c.can_answer.ensures (not_from_false _ c.if-not-can_answer.true) c.number-then-not-can_answer.ensures

pub returns : goal.returns
returns c =
    enter-in _ _ c.is_open.ensures (not_from_true _ c.if-not-is_open.false) c.can_answer.ensures (not_from_true _ c.if-not-can_answer.false)
