use mathlib.Core.Path.{refl}
use native.Mathlib.Omega.{arith}
use Rattle.valuing.proofs.StartLaws.{top-leaf, top-higher, top-true, top-false}
use Rattle.valuing.proofs.top.Goals as goal

pub returns-then-words-i : goal.returns-then-words-i
returns-then-words-i c =
    top-leaf (λ x. x) _ _ _ c.if-words-i.true refl

pub offset_bounds-high-t : goal.offset_bounds-high-t
offset_bounds-high-t c =
    omega (arith, top-true c.requires.topping c.requires.i_bound c.if-words-i.false)

pub bounds-high-t : goal.bounds-high-t
bounds-high-t c =
    search top-true

pub offset_bounds-high-f : goal.offset_bounds-high-f
offset_bounds-high-f c =
    omega (arith, top-false c.requires.topping c.requires.i_bound c.if-words-i.false)

pub bounds-high-f : goal.bounds-high-f
bounds-high-f c =
    search top-false

pub returns : goal.returns
returns c =
    top-higher (λ x. x) _ _ _ c.if-words-i.false c.max.ensures
