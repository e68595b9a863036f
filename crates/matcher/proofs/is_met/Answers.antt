use native.Mathlib.Omega.{arith}
use Rattle.matcher.proofs.FindLaws.{image-small, met-other, met-equal, equates-small}
use borrow.Author.Rules.{rules}
use Rattle.matcher.proofs.is_met.Goals as goal

pub overflow_mul-l : goal.overflow_mul-l
overflow_mul-l c =
    omega (arith, equates-small (image-small c.requires.images 0 (omega arith) c.place-t.ensures) (image-small c.requires.images 1 (omega arith) c.place-u.ensures) c.equate.ensures c.in-Is.is)

pub overflow_add-l : goal.overflow_add-l
overflow_add-l c =
    omega (arith, equates-small (image-small c.requires.images 0 (omega arith) c.place-t.ensures) (image-small c.requires.images 1 (omega arith) c.place-u.ensures) c.equate.ensures c.in-Is.is)

pub returns : goal.returns
returns c =
    search (rules, met-other, met-equal)
